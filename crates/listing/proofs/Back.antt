-- Well-formed records, printed and read back, are the same records. Assumes nothing.
use Rattle.std.proofs.Common.{Option, Some}
use Rattle.std.proofs.Common.{Err}
use Rattle.listing.specs.declared.ReadError.{ReadError}
use Rattle.std.proofs.Common.{Result, Ok}
use Rattle.listing.specs.Names.{◌≡◌, Bool, true, false, List, [], ◌∷◌, ◌++◌, ℕ, zero, suc, ◌+◌, ◌*◌, ◌/◌, ◌%◌, ◌≤◌, ◌<◌, ◌-◌, eqb, leb, length}
use Rattle.listing.specs.Names.{get_or, take, drop, set, pick, ◌and◌, ◌or◌, megabytes, type_of, Mapping, record_at, mappings, multiple, well_formed}
use Rattle.listing.specs.Names.{record_size, most, Class, Wrong}
use Rattle.listing.proofs.Names.{refl, sym, ap, ap₂, ◌∙◌, subst, append_assoc, arith, mod-eq_of_lt, dec_le, le-leb, lt-leb, lt-ltb, le-ltb}
use Rattle.listing.proofs.Names.{ltb-true, leb-true, eqb-true, lit≤, length-append, length-drop, length-take, List·getD-eq-default, length-set}
use Rattle.listing.proofs.Names.{length-take-le, take_at, drop-append-add, drop-drop, kind_of, pick_yes, pick_no, pick_by, and_left, and_right}
use Rattle.listing.proofs.Names.{or_no, word_of, mapping_of, mappings_from, proper, end, run_length, belongs, access_named, same_bytes, blank, mapping, parsed}
use Rattle.listing.proofs.Names.{body_length, from_kind, longest_text, lines_of, record_of, pasted, Reading, reading, by_said, read_lines, read_text}
use Rattle.listing.proofs.Names.{access_text, line_text, printed, formed_from, formed}
use lib.Dec.{lit<}
use lib.Seq.{take-add, take_all, get_or-take, get_or-drop, ext_get_or, get_or-set_other, get_or-set_same}
use Rattle.wire.specs.Words.{little_endian}
use Rattle.listing.specs.Theorems.{ReadAgain}
use Rattle.listing.proofs.Turns.{behind, lines-first}
use Rattle.wire.proofs.Pastes.{pasted-none, pasted_then, pasted_length}
use Rattle.listing.proofs.Columns.{mappings-count, printed-length}
use Rattle.listing.proofs.Reread.{bare, High, in_bare, said-bare}
use Rattle.listing.proofs.Spelling.{In, run-append}
use Rattle.listing.proofs.Sound.{Sound}

-- a line and its end in front of a text
cut : (w l : List ℕ) → In Class.Inline w → lines_of (w ++ (10 ∷ l)) ≡ w ∷ lines_of l
unfolding behind run_length belongs pick
cut w l h =
    let t : List ℕ = w ++ (10 ∷ l) in
    let r : run_length Class.Inline t ≡ length w = run-append Class.Inline w (10 ∷ l) h ∙ (let z : length w + 0 ≡ length w = omega arith in z) in
    lines-first t
    ∙ ap (λ (n : ℕ). take n t ∷ behind n t) r
    ∙ ap₂ (λ (a : List ℕ) (b : List (List ℕ)). a ∷ b) (take_at w (10 ∷ l) (length w) refl)
    (pick_yes _ _ _ (lt-ltb (length w) (length t) (omega (arith, length-append w (10 ∷ l))))
    ∙ ap lines_of (ap (λ (n : ℕ). drop n t) (let z : suc (length w) ≡ length w + 1 = omega arith in z) ∙ drop-append-add w (10 ∷ l) 1))

-- a mapping as its record's bytes say it
record Told (m : Mapping) : Type 0 where
  pub sound : Sound m
  pub virtual : multiple m.kind m.at.0 ≡ true
  pub physical : multiple m.kind m.to.0 ≡ true
  pub access : (eqb m.access 2 or eqb m.access 3) ≡ true

either : {P : Type 0} (b : Bool) → (b ≡ true → P) → (b ≡ false → P) → P
either true f g = f refl
either false f g = g refl

two_said : (m : Mapping) → Told m → m.access ≡ 2 → parsed (bare m.kind m.at.0 m.to.0 (access_text m.access)) ≡ Ok (Some m)
unfolding access_text pick access_named same_bytes ◌and◌ run_length belongs blank ◌or◌
two_said m t e =
    ap (λ (a : ℕ). parsed (bare m.kind m.at.0 m.to.0 (access_text a))) e
    ∙ said-bare m.kind m.at.0 m.to.0 2 t.sound.virtual t.sound.physical t.virtual t.physical [] 114 (lit≤ tt, tt) (omega arith)
    (λ x. omega arith) refl refl
    ∙ ap (λ (a : ℕ). Ok (Some (mapping m.kind m.at.0 m.to.0 a))) (sym e)

three_said : (m : Mapping) → Told m → m.access ≡ 3 → parsed (bare m.kind m.at.0 m.to.0 (access_text m.access)) ≡ Ok (Some m)
unfolding access_text pick access_named same_bytes ◌and◌ run_length belongs blank ◌or◌
three_said m t e =
    ap (λ (a : ℕ). parsed (bare m.kind m.at.0 m.to.0 (access_text a))) e
    ∙ said-bare m.kind m.at.0 m.to.0 3 t.sound.virtual t.sound.physical t.virtual t.physical (114 ∷ []) 119 (lit≤ tt, (lit≤ tt, tt)) (omega arith)
    (λ x. omega arith) refl refl
    ∙ ap (λ (a : ℕ). Ok (Some (mapping m.kind m.at.0 m.to.0 a))) (sym e)

told-said : (m : Mapping) → Told m → parsed (bare m.kind m.at.0 m.to.0 (access_text m.access)) ≡ Ok (Some m)
told-said m t =
    either (eqb m.access 2)
    (λ e. two_said m t (eqb-true m.access 2 e))
    (λ e. three_said m t (eqb-true m.access 3 (sym (or_no _ _ e) ∙ t.access)))

-- a line printed and read, in front of a text
line-is : (m : Mapping) (l : List ℕ) → line_text m ++ l ≡ bare m.kind m.at.0 m.to.0 (access_text m.access) ++ (10 ∷ l)
unfolding line_text
line-is m l = simp append_assoc

access_high : (a : ℕ) → High (access_text a)
unfolding access_text
access_high a = pick_by High _ _ _ (λ _. (lit≤ tt, (lit≤ tt, tt))) (λ _. (lit≤ tt, tt))

lines_back : (m : Mapping) (l : List ℕ) → lines_of (line_text m ++ l) ≡ bare m.kind m.at.0 m.to.0 (access_text m.access) ∷ lines_of l
lines_back m l = ap lines_of (line-is m l) ∙ cut _ l (in_bare Class.Inline tt m.kind m.at.0 m.to.0 (access_text m.access) (access_high m.access))

-- a line that says a mapping, read
mapped_next : (i n : ℕ) (w : List ℕ) (t : List (List ℕ)) (rs ls : List ℕ) (m : Mapping) → n < most → parsed w ≡ Ok (Some m)
    → read_lines i n (w ∷ t) rs ls ≡ read_lines (suc i) (suc n) t (pasted rs (12 * n) (record_of m)) (set ls n i)
unfolding read_lines
mapped_next i n w t rs ls m h e =
    ap (λ (s : Result (Option Mapping) Wrong). by_said s (read_lines (suc i) n t rs ls)
    (λ m. pick (leb most n) (reading (Err (ReadError.Bad i Wrong.TooManyMappings)) rs ls) (read_lines (suc i) (suc n) t (pasted rs (12 * n) (record_of m)) (set ls n i)))
    (λ w. reading (Err (ReadError.Bad i w)) rs ls)) e
    ∙ pick_no _ _ _ (lt-leb most n h)

-- the empty line behind the last
nothing_last : (i n : ℕ) (rs ls : List ℕ) → read_lines i n (lines_of []) rs ls ≡ reading (Ok n) rs ls
unfolding read_lines lines_of parsed body_length from_kind run_length pick
nothing_last i n rs ls = refl

record_length : (m : Mapping) → length (record_of m) ≡ 12
unfolding record_of
record_length m = refl

-- records c on, k of them, printed and read behind c others
abbrev Gives : Reading → ℕ → List ℕ → Type 0
Gives r n rs = (r.answer ≡ Ok n) × (r.records ≡ rs)

back_from : (rs : List ℕ) → ((j : ℕ) → 12 * j + 12 ≤ length rs → j < length rs / 12 → Told (mapping_of (record_at rs j)) × (record_of (mapping_of (record_at rs j)) ≡ record_at rs j))
    → (k c i : ℕ) (room ls : List ℕ) → 12 * (c + k) ≤ length rs → c + k ≤ most → record_size * most ≤ length room
    → Gives (read_lines i c (lines_of (printed (mappings_from rs c k))) room ls) (c + k) (pasted room (12 * c) (take (12 * k) (drop (12 * c) rs)))
unfolding mappings_from printed
back_from rs f zero c i room ls h g r =
    subst (λ (x : Reading). Gives x (c + 0) (pasted room (12 * c) [])) (sym (nothing_last i c room ls))
    (ap Ok (let z : c ≡ c + 0 = omega arith in z), sym (pasted-none room (12 * c)))
back_from rs f (suc k) c i room ls h g r =
    let m : Mapping = mapping_of (record_at rs c) in
    let t = f c (omega arith) (omega arith) in
    let len : length (record_of m) ≡ 12 = record_length m in
    let fits : 12 * c + length (record_of m) ≤ length room = omega arith in
    let next : List ℕ = pasted room (12 * c) (record_of m) in
    let ih = back_from rs f k (suc c) (suc i) next (set ls c i) (omega arith) (omega arith) (subst (λ (n : ℕ). record_size * most ≤ n) (sym (pasted_length room (12 * c) (record_of m) fits)) r) in
    subst (λ (x : Reading). Gives x (c + suc k) (pasted room (12 * c) (take (12 * suc k) (drop (12 * c) rs))))
    (sym (ap (λ (x : List (List ℕ)). read_lines i c x room ls) (lines_back m (printed (mappings_from rs (suc c) k)))
    ∙ mapped_next i c (bare m.kind m.at.0 m.to.0 (access_text m.access)) (lines_of (printed (mappings_from rs (suc c) k))) room ls m (omega arith) (told-said m t.0))) (
      ih.0 ∙ ap Ok (let z : suc c + k ≡ c + suc k = omega arith in z),
      ih.1
          ∙ ap (λ (n : ℕ). pasted next n (take (12 * k) (drop (12 * suc c) rs))) (let z : 12 * suc c ≡ 12 * c + length (record_of m) = omega arith in z)
          ∙ pasted_then room (12 * c) (record_of m) fits (take (12 * k) (drop (12 * suc c) rs))
          ∙ ap (pasted room (12 * c)) (ap₂ (λ (a b : List ℕ). a ++ b) t.1
          (ap (take (12 * k)) (ap (λ (n : ℕ). drop n rs) (let z : 12 * suc c ≡ 12 * c + 12 = omega arith in z) ∙ sym (drop-drop 12 (12 * c) rs)))
          ∙ sym (take-add 12 (12 * k) (drop (12 * c) rs))
          ∙ ap (λ (n : ℕ). take n (drop (12 * c) rs)) (let z : 12 + 12 * k ≡ 12 * suc k = omega arith in z)),
    )

-- the line numbers beside them
abbrev Numbered : Reading → List ℕ → ℕ → ℕ → ℕ → Type 0
Numbered r ls c k i = ((j : ℕ) → j < c → get_or r.lines j 0 ≡ get_or ls j 0) × ((j : ℕ) → c ≤ j → j < c + k → get_or r.lines j 0 ≡ i + (j - c))

numbered-from : (rs : List ℕ) → ((j : ℕ) → 12 * j + 12 ≤ length rs → j < length rs / 12 → Told (mapping_of (record_at rs j)))
    → (k c i : ℕ) (room ls : List ℕ) → 12 * (c + k) ≤ length rs → c + k ≤ most → most ≤ length ls
    → Numbered (read_lines i c (lines_of (printed (mappings_from rs c k))) room ls) ls c k i
unfolding mappings_from printed
numbered-from rs f zero c i room ls h g r = subst (λ (x : Reading). Numbered x ls c 0 i) (sym (nothing_last i c room ls)) (λ j a. refl, λ j a b. absurd (omega arith))
numbered-from rs f (suc k) c i room ls h g r =
    let m : Mapping = mapping_of (record_at rs c) in
    let ih = numbered-from rs f k (suc c) (suc i) (pasted room (12 * c) (record_of m)) (set ls c i) (omega arith) (omega arith) (subst (λ (n : ℕ). most ≤ n) (sym (length-set ls c i)) r) in
    subst (λ (x : Reading). Numbered x ls c (suc k) i)
    (sym (ap (λ (x : List (List ℕ)). read_lines i c x room ls) (lines_back m (printed (mappings_from rs (suc c) k)))
    ∙ mapped_next i c (bare m.kind m.at.0 m.to.0 (access_text m.access)) (lines_of (printed (mappings_from rs (suc c) k))) room ls m (omega arith)
    (told-said m (f c (omega arith) (omega arith))))) (
      λ j a. ih.0 j (omega arith) ∙ get_or-set_other ls c j i 0 (λ e. omega arith),
      λ j a b. elim (dec_le j c) [
        | yes q ↦ ih.0 j (omega arith) ∙ ap (λ (n : ℕ). get_or (set ls c i) n 0) (let z : j ≡ c = omega arith in z) ∙ get_or-set_same ls c i 0 (omega arith) ∙
            (let z : i ≡ i + (j - c) = omega arith in z)
        | no q ↦ ih.1 j (omega arith) (omega arith) ∙ (let z : suc i + (j - suc c) ≡ i + (j - c) = omega arith in z)
      ],
    )

type_back : (x : ℕ) → x < 4 → type_of (kind_of x) ≡ x
unfolding kind_of pick
type_back zero h = refl
type_back (suc zero) h = refl
type_back (suc (suc zero)) h = refl
type_back (suc (suc (suc zero))) h = refl
type_back (suc (suc (suc (suc x)))) h = absurd (omega arith)

-- the bytes of a word of four bytes
module _ (a b c d x : ℕ) (ha : a < 256) (hb : b < 256) (hc : c < 256) (hd : d < 256) (e : x ≡ little_endian a b c d) where
  byte_0 : x % 256 ≡ a
  byte_0 = omega arith

  byte_1 : x / 256 % 256 ≡ b
  byte_1 = omega arith

  byte_2 : x / 65536 % 256 ≡ c
  byte_2 = omega arith

  byte_3 : x / 16777216 % 256 ≡ d
  byte_3 = omega arith

bytes_back : (m : Mapping) (r : List ℕ) → get_or r 0 0 < 256 → get_or r 1 0 < 256 → get_or r 2 0 < 256 → get_or r 3 0 < 256 → get_or r 4 0 < 256 → get_or r 5 0 < 256
    → get_or r 6 0 < 256 → get_or r 7 0 < 256
    → m.at.0 ≡ little_endian (get_or r 0 0) (get_or r 1 0) (get_or r 2 0) (get_or r 3 0) → m.to.0 ≡ little_endian (get_or r 4 0) (get_or r 5 0) (get_or r 6 0) (get_or r 7 0)
    → type_of m.kind ≡ get_or r 8 0 → m.access % 256 ≡ get_or r 9 0 → get_or r 10 0 ≡ 0 → get_or r 11 0 ≡ 0 → (i : ℕ) → i < 12 → get_or (record_of m) i 0 ≡ get_or r i 0
unfolding record_of
bytes_back m r b0 b1 b2 b3 b4 b5 b6 b7 v p k a t u zero h = byte_0 _ _ _ _ _ b0 b1 b2 b3 v
bytes_back m r b0 b1 b2 b3 b4 b5 b6 b7 v p k a t u (suc zero) h = byte_1 _ _ _ _ _ b0 b1 b2 b3 v
bytes_back m r b0 b1 b2 b3 b4 b5 b6 b7 v p k a t u (suc (suc zero)) h = byte_2 _ _ _ _ _ b0 b1 b2 b3 v
bytes_back m r b0 b1 b2 b3 b4 b5 b6 b7 v p k a t u (suc (suc (suc zero))) h = byte_3 _ _ _ _ _ b0 b1 b2 b3 v
bytes_back m r b0 b1 b2 b3 b4 b5 b6 b7 v p k a t u (suc (suc (suc (suc zero)))) h = byte_0 _ _ _ _ _ b4 b5 b6 b7 p
bytes_back m r b0 b1 b2 b3 b4 b5 b6 b7 v p k a t u (suc (suc (suc (suc (suc zero))))) h = byte_1 _ _ _ _ _ b4 b5 b6 b7 p
bytes_back m r b0 b1 b2 b3 b4 b5 b6 b7 v p k a t u (suc (suc (suc (suc (suc (suc zero)))))) h = byte_2 _ _ _ _ _ b4 b5 b6 b7 p
bytes_back m r b0 b1 b2 b3 b4 b5 b6 b7 v p k a t u (suc (suc (suc (suc (suc (suc (suc zero))))))) h = byte_3 _ _ _ _ _ b4 b5 b6 b7 p
bytes_back m r b0 b1 b2 b3 b4 b5 b6 b7 v p k a t u (suc (suc (suc (suc (suc (suc (suc (suc zero)))))))) h = k
bytes_back m r b0 b1 b2 b3 b4 b5 b6 b7 v p k a t u (suc (suc (suc (suc (suc (suc (suc (suc (suc zero))))))))) h = a
bytes_back m r b0 b1 b2 b3 b4 b5 b6 b7 v p k a t u (suc (suc (suc (suc (suc (suc (suc (suc (suc (suc zero)))))))))) h = sym t
bytes_back m r b0 b1 b2 b3 b4 b5 b6 b7 v p k a t u (suc (suc (suc (suc (suc (suc (suc (suc (suc (suc (suc zero))))))))))) h = sym u
bytes_back m r b0 b1 b2 b3 b4 b5 b6 b7 v p k a t u (suc (suc (suc (suc (suc (suc (suc (suc (suc (suc (suc (suc i)))))))))))) h = absurd (omega arith)

-- a record of twelve bytes that is well-formed, as a mapping and as bytes again
module _ (r : List ℕ) (len : length r ≡ 12) (b : (i : ℕ) → get_or r i 0 < 256) (w : well_formed megabytes r ≡ true) where
  word_at : (n : ℕ) → n + 4 ≤ length r → word_of (take 4 (drop n r)) ≡ little_endian (get_or r (n + 0) 0) (get_or r (n + 1) 0) (get_or r (n + 2) 0) (get_or r (n + 3) 0)
  unfolding word_of
  word_at n h =
      let l = length-take 4 (drop n r) in
      let d = length-drop n r in
      pick_yes _ _ _ (le-leb 4 (length (take 4 (drop n r))) (omega arith))
      ∙ rw (byte 0 (lit< tt), byte 1 (lit< tt), byte 2 (lit< tt), byte 3 (lit< tt))
    where
      byte : (i : ℕ) → i < 4 → get_or (take 4 (drop n r)) i 0 ≡ get_or r (n + i) 0
      byte i h = get_or-take 4 (drop n r) i 0 h ∙ get_or-drop n r i 0

  virtual_is : (mapping_of r).at.0 ≡ little_endian (get_or r 0 0) (get_or r 1 0) (get_or r 2 0) (get_or r 3 0)
  unfolding mapping_of
  virtual_is = word_at 0 (omega arith)

  physical-is : (mapping_of r).to.0 ≡ little_endian (get_or r 4 0) (get_or r 5 0) (get_or r 6 0) (get_or r 7 0)
  unfolding mapping_of
  physical-is = word_at 4 (omega arith)

  type_low : get_or r 8 0 < 4
  unfolding well_formed
  type_low = ltb-true _ _ (and_left _ _ (and_right _ _ w))

  is-proper : proper megabytes (mapping_of r) ≡ true
  unfolding well_formed
  is-proper = and_left _ _ (and_right _ _ (and_right _ _ w))

  tenth : get_or r 10 0 ≡ 0
  unfolding well_formed
  tenth = eqb-true _ _ (and_left _ _ (and_right _ _ (and_right _ _ (and_right _ _ w))))

  eleventh : get_or r 11 0 ≡ 0
  unfolding well_formed
  eleventh = eqb-true _ _ (and_right _ _ (and_right _ _ (and_right _ _ (and_right _ _ w))))

  record_told : Told (mapping_of r)
  unfolding proper
  record_told = record {
    sound = record { formed = is-proper; virtual = ltb-true _ _ (and_left _ _ is-proper); physical = small (b 4) (b 5) (b 6) (b 7) };
    virtual = and_left _ _ (and_right _ _ is-proper);
    physical = and_left _ _ (and_right _ _ (and_right _ _ is-proper));
    access = and_right _ _ (and_right _ _ (and_right _ _ is-proper));
  }
    where
      small : get_or r 4 0 < 256 → get_or r 5 0 < 256 → get_or r 6 0 < 256 → get_or r 7 0 < 256 → (mapping_of r).to.0 < end
      small p q s t = omega (arith, physical-is)

  type_is : type_of (mapping_of r).kind ≡ get_or r 8 0
  unfolding mapping_of
  type_is = type_back (get_or r 8 0) type_low

  access_is : (mapping_of r).access % 256 ≡ get_or r 9 0
  unfolding mapping_of
  access_is = mod-eq_of_lt (b 9)

  record_back : record_of (mapping_of r) ≡ r
  record_back = ext_get_or 0 (record_of (mapping_of r)) r (record_length (mapping_of r) ∙ sym len) (λ i h. at i (subst (λ (n : ℕ). i < n) (record_length (mapping_of r)) h))
    where
      at : (i : ℕ) → i < 12 → get_or (record_of (mapping_of r)) i 0 ≡ get_or r i 0
      at i h = bytes_back (mapping_of r) r (b 0) (b 1) (b 2) (b 3) (b 4) (b 5) (b 6) (b 7) virtual_is physical-is type_is access_is tenth eleventh i h

-- each record of a list that is formed
formed_at : (rs : List ℕ) (k i j : ℕ) → formed_from rs i k ≡ true → i ≤ j → j < i + k → well_formed megabytes (record_at rs j) ≡ true
unfolding formed_from
formed_at rs zero i j f g h = absurd (omega arith)
formed_at rs (suc k) i j f g h = elim (dec_le j i) [
  | yes q ↦ subst (λ (n : ℕ). well_formed megabytes (record_at rs n) ≡ true) (let z : i ≡ j = omega arith in z) (and_left _ _ f)
  | no q ↦ formed_at rs k (suc i) j (and_right _ _ f) (omega arith) (omega arith)
]

byte_at : (rs : List ℕ) (j i : ℕ) → ((n : ℕ) → get_or rs n 0 < 256) → length (record_at rs j) ≡ 12 → get_or (record_at rs j) i 0 < 256
byte_at rs j i b l = elim (dec_le 12 i) [
  | yes q ↦ subst (λ (x : ℕ). x < 256) (sym (List·getD-eq-default (record_at rs j) 0 {n = i} (omega arith))) (lit< tt)
  | no q ↦ subst (λ (x : ℕ). x < 256) (sym (get_or-take 12 (drop (12 * j) rs) i 0 (omega arith) ∙ get_or-drop (12 * j) rs i 0)) (b (12 * j + i))
]

pub read_back : ReadAgain
unfolding read_text formed mappings
read_back rs room ls f b h g =
    let n : ℕ = length rs / 12 in
    let whole : length rs % 12 ≡ 0 = eqb-true _ _ (and_left _ _ f) in
    let few : n ≤ most = leb-true _ _ (and_left _ _ (and_right _ _ f)) in
    let each = and_right _ _ (and_right _ _ f) in
    let size : (j : ℕ) → 12 * j + 12 ≤ length rs → length (record_at rs j) ≡ 12 = λ j k. length-take-le 12 (drop (12 * j) rs) (omega (arith, length-drop (12 * j) rs)) in
    let short : length (printed (mappings rs)) ≤ longest_text = omega (arith, printed-length (mappings rs), mappings-count rs) in
    let told : (j : ℕ) → 12 * j + 12 ≤ length rs → j < n → Told (mapping_of (record_at rs j)) =
    λ j k l. record_told (record_at rs j) (size j k) (λ i. byte_at rs j i b (size j k)) (formed_at rs n 0 j each (omega arith) (omega arith)) in
    let r =
    back_from rs (λ j k l. (
      told j k l,
      record_back (record_at rs j) (size j k) (λ i. byte_at rs j i b (size j k))
          (formed_at rs n 0 j each (omega arith) (omega arith)),
    )) n 0 1 room ls (omega arith) (omega arith) h in
    let q = numbered-from rs told n 0 1 room ls (omega arith) (omega arith) g in
    subst (λ (x : Reading). (x.answer ≡ Ok n) × (x.records ≡ pasted room 0 rs) × ((j : ℕ) → j < n → get_or x.lines j 0 ≡ 1 + j))
    (sym (pick_no _ _ _ (or_no _ _ (le-ltb (length room) (record_size * most) h) ∙ le-ltb (length ls) most g) ∙ pick_no _ _ _ (le-ltb longest_text (length (printed (mappings rs))) short))) (
      r.0 ∙ ap Ok (let z : 0 + n ≡ n = omega arith in z),
      r.1 ∙ ap (pasted room 0) (take_all (12 * n) rs (omega arith)),
      λ j k. q.1 j (omega arith) (omega arith)
          ∙ (let z : 1 + (j - 0) ≡ 1 + j = omega arith in z),
    )
