-- Words written into a memory, by the byte. Assumes nothing.
use Rattle.wire.specs.Names.{◌≡◌, List, [], ◌∷◌, ◌++◌, ℕ, zero, suc, ◌+◌, ◌*◌, ◌-◌, ◌/◌, ◌%◌, ◌≤◌, length, take, drop, get_or}
use Rattle.wire.proofs.Names.{refl, sym, ap, ap₂, ◌∙◌, append_assoc, ◌<◌, arith, dec_le, length-append, length-drop, take-append-drop}
use Rattle.wire.proofs.Names.{length-take-le, le-leb, pick_yes, word_bytes, bytes_of, placed, words_put, spliced, run_put}
use Rattle.wire.proofs.Placing.{written_fits}
use mathlib.Core.List.{append-nil}
use lib.ListN.{get_or-append}
use lib.Seq.{get_or-append-add, get_or-take, get_or-drop, ext_get_or}
use Rattle.wire.specs.Spliced.{bytes_by}

-- byte i of the words of f
abbrev pub byte_of_words : (ℕ → ℕ) → ℕ → ℕ
byte_of_words f i = get_or (word_bytes (f (i / 4))) (i % 4) 0

-- a place at or past the end of a first part is one of the second
append_past : (p q : List ℕ) (n i : ℕ) → length p ≡ n → n ≤ i → get_or (p ++ q) i 0 ≡ get_or q (i - n) 0
append_past p q n i e h =
    let s : i ≡ length p + (i - n) = omega arith in
    ap (λ (k : ℕ). get_or (p ++ q) k 0) s ∙ get_or-append-add p q (i - n) 0

pub bytes-length : (f : ℕ → ℕ) (k : ℕ) → length (bytes_by f k) ≡ 4 * k
unfolding bytes_by
bytes-length f zero = refl
bytes-length f (suc k) = length-append (bytes_by f k) (word_bytes (f k)) ∙ (let r = bytes-length f k in omega arith)

pub bytes_at : (f : ℕ → ℕ) (k i : ℕ) → i < 4 * k → get_or (bytes_by f k) i 0 ≡ byte_of_words f i
unfolding bytes_by
bytes_at f zero i h = absurd (omega arith)
bytes_at f (suc k) i h = elim (dec_le (4 * k) i) [
  | yes g ↦
      let w : i / 4 ≡ k = omega arith in
      let r : i - 4 * k ≡ i % 4 = omega arith in
      append_past (bytes_by f k) (word_bytes (f k)) (4 * k) i (bytes-length f k) g ∙ ap₂ (λ (x y : ℕ). get_or (word_bytes (f x)) y 0) (sym w) r
  | no g ↦ get_or-append (bytes_by f k) (word_bytes (f k)) 0 i (omega (arith, bytes-length f k)) ∙ bytes_at f k i (omega arith)
]

-- the memory after k words of f from offset a on
module _ (l : List ℕ) (a : ℕ) (f : ℕ → ℕ) (k : ℕ) (fits : a + 4 * k ≤ length l) where
  front : length (take a l) ≡ a
  front = length-take-le a l (omega arith)

  pub spliced-length : length (spliced l a f k) ≡ length l
  unfolding spliced
  spliced-length =
      length-append (take a l) (bytes_by f k ++ drop (a + 4 * k) l)
      ∙ (let p = length-append (bytes_by f k) (drop (a + 4 * k) l) in
      let q = length-drop (a + 4 * k) l in
      let b = bytes-length f k in
      omega (arith, front))

  -- before them and past them each byte is as it was
  pub spliced-before : (i : ℕ) → i < a → get_or (spliced l a f k) i 0 ≡ get_or l i 0
  unfolding spliced
  spliced-before i h =
      get_or-append (take a l) (bytes_by f k ++ drop (a + 4 * k) l) 0 i (omega (arith, front)) ∙ get_or-take a l i 0 h

  pub spliced_in : (i : ℕ) → a ≤ i → i < a + 4 * k → get_or (spliced l a f k) i 0 ≡ byte_of_words f (i - a)
  unfolding spliced
  spliced_in i h g =
      append_past (take a l) (bytes_by f k ++ drop (a + 4 * k) l) a i front h
      ∙ get_or-append (bytes_by f k) (drop (a + 4 * k) l) 0 (i - a) (omega (arith, bytes-length f k))
      ∙ bytes_at f k (i - a) (omega arith)

  pub spliced_past : (i : ℕ) → a + 4 * k ≤ i → get_or (spliced l a f k) i 0 ≡ get_or l i 0
  unfolding spliced
  spliced_past i h =
      let s : a + 4 * k + (i - a - 4 * k) ≡ i = omega arith in
      append_past (take a l) (bytes_by f k ++ drop (a + 4 * k) l) a i front (omega arith)
      ∙ append_past (bytes_by f k) (drop (a + 4 * k) l) (4 * k) (i - a) (bytes-length f k) (omega arith)
      ∙ get_or-drop (a + 4 * k) l (i - a - 4 * k) 0
      ∙ ap (λ (j : ℕ). get_or l j 0) s

-- no words
pub spliced-none : (l : List ℕ) (a : ℕ) (f : ℕ → ℕ) → spliced l a f 0 ≡ l
unfolding spliced bytes_by
spliced-none l a f = ap (λ (n : ℕ). take a l ++ drop n l) (let e : a + 4 * 0 ≡ a = omega arith in e) ∙ take-append-drop a l

-- m words of g over or behind n words of f, from word x on: together the k words of h
module _ (l : List ℕ) (a n x m k : ℕ) (f g h : ℕ → ℕ) (fits : a + 4 * k ≤ length l) (lo : n ≤ k) (hi : x + m ≤ k)
    (over : (j : ℕ) → x ≤ j → j < x + m → g (j - x) ≡ h j)
    (below : (j : ℕ) → j < x → (j < n) × (f j ≡ h j))
    (above : (j : ℕ) → x + m ≤ j → j < k → (j < n) × (f j ≡ h j)) where
  abbrev Same : ℕ → Type 0
  Same i = get_or (spliced (spliced l a f n) (a + 4 * x) g m) i 0 ≡ get_or (spliced l a h k) i 0

  inner : a + 4 * n ≤ length l
  inner = omega arith

  outer : a + 4 * x + 4 * m ≤ length (spliced l a f n)
  outer = omega (arith, spliced-length l a f n inner)

  word : (w : ℕ → ℕ) (i j : ℕ) → w (i / 4) ≡ h (j / 4) → i % 4 ≡ j % 4 → byte_of_words w i ≡ byte_of_words h j
  word w i j e r = ap₂ (λ (v y : ℕ). get_or (word_bytes v) y 0) e r

  before : (i : ℕ) → i < a → Same i
  before i c =
      spliced-before (spliced l a f n) (a + 4 * x) g m outer i (omega arith)
      ∙ spliced-before l a f n inner i c
      ∙ sym (spliced-before l a h k fits i c)

  past : (i : ℕ) → a + 4 * k ≤ i → Same i
  past i c =
      spliced_past (spliced l a f n) (a + 4 * x) g m outer i (omega arith)
      ∙ spliced_past l a f n inner i (omega arith)
      ∙ sym (spliced_past l a h k fits i c)

  kept : (i : ℕ) → a ≤ i → i < a + 4 * k → ((i - a) / 4 < n) × (f ((i - a) / 4) ≡ h ((i - a) / 4))
      → get_or (spliced l a f n) i 0 ≡ get_or (spliced l a h k) i 0
  kept i c d e =
      spliced_in l a f n inner i c (omega (arith, e.0)) ∙ word f (i - a) (i - a) e.1 refl ∙ sym (spliced_in l a h k fits i c d)

  pub same : (i : ℕ) → Same i
  same i = elim (dec_le a i) [
    | no c ↦ before i (omega arith)
    | yes c ↦
        elim (dec_le (a + 4 * k) i) [
          | yes d ↦ past i d
          | no d ↦
              elim (dec_le (a + 4 * x) i) [
                | no e ↦
                    spliced-before (spliced l a f n) (a + 4 * x) g m outer i (omega arith)
                    ∙ kept i c (omega arith) (below ((i - a) / 4) (omega arith))
                | yes e ↦
                    elim (dec_le (a + 4 * x + 4 * m) i) [
                      | yes u ↦
                          spliced_past (spliced l a f n) (a + 4 * x) g m outer i u
                          ∙ kept i c (omega arith) (above ((i - a) / 4) (omega arith) (omega arith))
                      | no u ↦
                          let q : (i - (a + 4 * x)) / 4 ≡ (i - a) / 4 - x = omega arith in
                          spliced_in (spliced l a f n) (a + 4 * x) g m outer i e (omega arith)
                          ∙ word g (i - (a + 4 * x)) (i - a) (ap g q ∙ over ((i - a) / 4) (omega arith) (omega arith)) (omega arith)
                          ∙ sym (spliced_in l a h k fits i c (omega arith))
                    ]
              ]
        ]
  ]

  pub spliced_twice : spliced (spliced l a f n) (a + 4 * x) g m ≡ spliced l a h k
  spliced_twice =
      ext_get_or 0 _ _
      (spliced-length (spliced l a f n) (a + 4 * x) g m outer ∙ spliced-length l a f n inner ∙ sym (spliced-length l a h k fits))
      (λ i _. same i)

-- m words behind n words
pub spliced_join : (l : List ℕ) (a n m : ℕ) (g h : ℕ → ℕ) → a + 4 * (n + m) ≤ length l → ((j : ℕ) → j < m → g j ≡ h (n + j))
    → spliced (spliced l a h n) (a + 4 * n) g m ≡ spliced l a h (n + m)
spliced_join l a n m g h fits e =
    spliced_twice l a n n m (n + m) h g h fits (omega arith) (omega arith)
    (λ j c d. e (j - n) (omega arith) ∙ ap h (let s : n + (j - n) ≡ j = omega arith in s))
    (λ j c. (c, refl))
    (λ j c d. absurd (omega arith))

-- one word more
pub spliced-more : (l : List ℕ) (a k w : ℕ) (h : ℕ → ℕ) → a + 4 * (k + 1) ≤ length l → w ≡ h k
    → spliced (spliced l a h k) (a + 4 * k) (λ (_ : ℕ). w) 1 ≡ spliced l a h (k + 1)
spliced-more l a k w h fits e =
    spliced_join l a k 1 (λ (_ : ℕ). w) h fits (λ j c. e ∙ ap h (let s : k ≡ k + j = omega arith in s))

-- words that agree
pub spliced_same : (l : List ℕ) (a k : ℕ) (f h : ℕ → ℕ) → a + 4 * k ≤ length l → ((j : ℕ) → j < k → f j ≡ h j) → spliced l a f k ≡ spliced l a h k
spliced_same l a k f h fits e =
    sym (spliced-none (spliced l a f k) (a + 4 * 0) f)
    ∙ spliced_twice l a k 0 0 k f f h fits (omega arith) (omega arith) (λ j c d. absurd (omega arith)) (λ j c. absurd (omega arith)) (λ j c d. (d, e j d))

-- a word is the low 32 bits of a number
pub low_bytes : (x q : ℕ) → word_bytes (x + 4294967296 * q) ≡ word_bytes x
low_bytes x q =
    ap₂ (λ (a : ℕ) (l : List ℕ). a ∷ l) (omega arith)
    (ap₂ (λ (a : ℕ) (l : List ℕ). a ∷ l) (omega arith)
    (ap₂ (λ (a : ℕ) (l : List ℕ). a ∷ l) (omega arith)
    (ap (λ (a : ℕ). a ∷ []) (omega arith))))

pub rest-bytes : (x : ℕ) → word_bytes (x % 4294967296) ≡ word_bytes x
rest-bytes x = sym (low_bytes (x % 4294967296) (x / 4294967296)) ∙ ap word_bytes (let e : x % 4294967296 + 4294967296 * (x / 4294967296) ≡ x = omega arith in e)

one_word : (l : List ℕ) (at w v : ℕ) → word_bytes w ≡ word_bytes v → placed l at (w ∷ []) ≡ spliced l at (λ (_ : ℕ). v) 1
unfolding placed bytes_of spliced bytes_by
one_word l at w v e = ap (λ (b : List ℕ). take at l ++ (b ++ drop (at + 4) l)) e

-- one word, put behind k words of h
pub one_more : (l m n : List ℕ) (a k w : ℕ) (h : ℕ → ℕ) → a + 4 * (k + 1) ≤ length l → word_bytes w ≡ word_bytes (h k) → m ≡ spliced l a h k
    → n ≡ placed m (a + 4 * k) (w ∷ []) → n ≡ spliced l a h (k + 1)
one_more l m n a k w h fits e p q =
    q
    ∙ ap (λ (o : List ℕ). placed o (a + 4 * k) (w ∷ [])) p
    ∙ one_word (spliced l a h k) (a + 4 * k) w (h k) e
    ∙ spliced-more l a k (h k) h fits refl

-- words that have room
pub run_fits : (l : List ℕ) (at n w : ℕ) → at + 4 * n ≤ length l → run_put l at n w ≡ spliced l at (λ (_ : ℕ). w) n
unfolding run_put
run_fits l at n w h = pick_yes _ _ _ (le-leb _ _ h)

-- words of a list, that are those of f
list-bytes : (f : ℕ → ℕ) (k : ℕ) (ws : List ℕ) → ((j : ℕ) → j < length ws → word_bytes (get_or ws j 0) ≡ word_bytes (f (k + j)))
    → bytes_by f k ++ bytes_of ws ≡ bytes_by f (k + length ws)
unfolding bytes_by bytes_of
list-bytes f k [] e = append-nil (bytes_by f k) ∙ ap (bytes_by f) (let i : k ≡ k + 0 = omega arith in i)
list-bytes f k (w ∷ ws) e =
    sym (append_assoc (bytes_by f k) (word_bytes w) (bytes_of ws))
    ∙ ap (λ (b : List ℕ). (bytes_by f k ++ b) ++ bytes_of ws) (e 0 (omega arith) ∙ ap (λ (i : ℕ). word_bytes (f i)) (let i : k + 0 ≡ k = omega arith in i))
    ∙ list-bytes f (suc k) ws (λ j h. e (suc j) (omega arith) ∙ ap (λ (i : ℕ). word_bytes (f i)) (let i : k + suc j ≡ suc k + j = omega arith in i))
    ∙ ap (bytes_by f) (let i : suc k + length ws ≡ k + suc (length ws) = omega arith in i)

pub words_fit : (l : List ℕ) (at n : ℕ) (ws : List ℕ) (f : ℕ → ℕ) → length ws ≡ n → at + 4 * n ≤ length l → ((j : ℕ) → j < n → word_bytes (get_or ws j 0) ≡ word_bytes (f j))
    → words_put l at ws ≡ spliced l at f n
unfolding placed spliced bytes_by
words_fit l at n ws f c h e =
    written_fits l at ws (omega arith)
    ∙ ap (λ (b : List ℕ). take at l ++ (b ++ drop (at + 4 * length ws) l))
    (list-bytes f 0 ws (λ j g. e j (omega arith) ∙ ap (λ (i : ℕ). word_bytes (f i)) (let i : j ≡ 0 + j = omega arith in i)))
    ∙ ap (λ (k : ℕ). take at l ++ (bytes_by f k ++ drop (at + 4 * length ws) l)) (let i : 0 + length ws ≡ n = omega arith in i)
    ∙ ap (λ (k : ℕ). take at l ++ (bytes_by f n ++ drop (at + 4 * k) l)) c
