-- Of a block that is taken, any one byte changed is seen by the check. Assumes nothing.
use Rattle.recording.specs.Names.{◌≡◌, List, [], ◌∷◌, ℕ, zero, suc, ◌+◌, ◌-◌, ◌≤◌, ◌<◌, length, get_or, set, take, drop, Bytes, word_at, crc32}
use Rattle.recording.specs.Statements.{DamageRefused}
use Rattle.recording.proofs.Names.{sym, ◌∙◌, ap, subst, arith, dec_le, length-take}
use Rattle.recording.proofs.Passed.{next_passed}
use Rattle.crc.proofs.Catches.{one-byte_caught}
use Rattle.wire.proofs.Reading.{bytes_drop, bytes_take, four_long, same_bytes_lem}
use lib.Seq.{drop-set-lt, get_or-drop, get_or-set_same, get_or-take, set_split, split_at, take-set-le, take-set-lt}

-- bytes, one of them replaced by a byte, are bytes
bytes-set : (l : List ℕ) (j x : ℕ) → Bytes l → x < 256 → Bytes (set l j x)
bytes-set [] j x f h i = f i
bytes-set (y ∷ l) zero x f h zero = h
bytes-set (y ∷ l) zero x f h (suc i) = f (suc i)
bytes-set (y ∷ l) (suc j) x f h zero = f 0
bytes-set (y ∷ l) (suc j) x f h (suc i) = bytes-set l j x (λ k. f (suc k)) h i

-- where the first n bytes have the same check with byte j of them replaced, it is the same byte
front_same : (n : ℕ) (b : List ℕ) (j x : ℕ) → Bytes b → Bytes (set b j x) → j < n → j < length b → crc32 (take n (set b j x)) ≡ crc32 (take n b) → x ≡ get_or b j 0
front_same n b j x f g h long e =
    let within : j < length (take n b) = omega (arith, length-take n b) in
    let s = take-set-lt n b j x h ∙ set_split (take n b) j x within in
    let t = split_at (take n b) j 0 within in
    one-byte_caught (take j (take n b)) (drop (suc j) (take n b)) x (get_or (take n b) j 0)
    (subst Bytes s (bytes_take n (set b j x) g)) (subst Bytes t (bytes_take n b f)) (cc)
    ∙ get_or-take n b j 0 h

-- where two lists have the same word at k, they have the same four bytes there
word_same : (k : ℕ) (l m : List ℕ) (i : ℕ) → Bytes l → Bytes m → k + 4 ≤ length l → k + 4 ≤ length m → i < 4 → word_at l k ≡ word_at m k → get_or l (k + i) 0 ≡ get_or m (k + i) 0
word_same k l m i f g p q h e =
    sym (byte l)
    ∙ ap (λ (s : List ℕ). get_or s i 0)
    (same_bytes_lem (take 4 (drop k l)) (take 4 (drop k m)) (bytes_take 4 (drop k l) (bytes_drop k l f)) (bytes_take 4 (drop k m) (bytes_drop k m g)) (four_long l k p) (four_long m k q) e)
    ∙ byte m
  where
    byte : (s : List ℕ) → get_or (take 4 (drop k s)) i 0 ≡ get_or s (k + i) 0
    byte s = get_or-take 4 (drop k s) i 0 h ∙ get_or-drop k s i 0

-- a block that is taken is not taken with another value of one byte
pub damage_refused : DamageRefused
damage_refused p b j x f h w n q t s u =
    let old = next_passed p b q t in
    let new = next_passed p (set b j x) s u in
    let g = bytes-set b j x f w in
    n (elim (dec_le 508 j) [
      | yes m ↦
          let e : 508 + (j - 508) ≡ j = omega arith in
          sym (get_or-set_same b j x 0 (omega arith)) ∙ rw e at (word_same 508 (set b j x) b (j - 508) g f (omega arith) (omega arith) (omega arith) (cc (take-set-le 508 b j x m)))
      | no m ↦ front_same 508 b j x f g (omega arith) (omega arith) (cc (drop-set-lt 508 b j x (omega arith)))
    ])
