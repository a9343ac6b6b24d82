-- A printed line read back says its mapping. Assumes nothing.
use Rattle.std.proofs.Common.{Ok}
use Rattle.std.proofs.Common.{Option, Some}
use Rattle.listing.specs.Names.{◌≡◌, true, List, [], ◌∷◌, ◌++◌, ℕ, suc, ◌^◌, ◌≤◌, ◌<◌, length, pick, ◌and◌, ◌or◌, Kind, multiple, Class}
use Rattle.listing.proofs.Names.{refl, sym, ap, ap₂, ◌∙◌, subst, append_assoc, append-nil, arith, ne_eqb, lit≤, length-append, pick_yes}
use Rattle.listing.proofs.Names.{pick_no, end, blank, belongs, run_length, same_bytes, kind_named, access_named, mapping, from_virtual, from_kind, after_kind}
use Rattle.listing.proofs.Names.{parsed, hex_text, kind_column, hex_column}
use Rattle.listing.specs.Words.{kind_text}
use Rattle.listing.proofs.Columns.{kind_length, six_length, eight_length}
use Rattle.listing.proofs.Spelling.{Ink, In, in_append, in_one, in_hex, word_here, rest_here, virtual_back, ink_high, solid_none, said-whole}

-- a kind's word and the blanks behind it
abbrev pub kind_blanks : Kind → List ℕ
kind_blanks Kind.Section = []
kind_blanks Kind.Large = 32 ∷ 32 ∷ []
kind_blanks Kind.Small = 32 ∷ 32 ∷ []
kind_blanks Kind.Tiny = 32 ∷ 32 ∷ 32 ∷ []

pub column_is : (k : Kind) → kind_column k ≡ kind_text k ++ (32 ∷ kind_blanks k)
column_is Kind.Section = refl
column_is Kind.Large = refl
column_is Kind.Small = refl
column_is Kind.Tiny = refl

pub blanks_are : (k : Kind) → In Class.Blank (32 ∷ kind_blanks k)
unfolding run_length belongs blank pick ◌or◌
blanks_are Kind.Section = refl
blanks_are Kind.Large = refl
blanks_are Kind.Small = refl
blanks_are Kind.Tiny = refl

-- bytes from '0' on
abbrev pub High : List ℕ → Type 0
High [] = Unit
High (x ∷ w) = (48 ≤ x) × High w

in_high : (c : Class) → Ink c → (w : List ℕ) → High w → In c w
unfolding run_length
in_high c i [] h = refl
in_high c i (x ∷ w) h = pick_yes _ _ _ (ink_high c i x h.0) ∙ ap suc (in_high c i w h.1)

kind_high : (k : Kind) → High (kind_text k)
kind_high Kind.Section = (lit≤ tt, (lit≤ tt, (lit≤ tt, (lit≤ tt, (lit≤ tt, (lit≤ tt, (lit≤ tt, tt)))))))
kind_high Kind.Large = (lit≤ tt, (lit≤ tt, (lit≤ tt, (lit≤ tt, (lit≤ tt, tt)))))
kind_high Kind.Small = (lit≤ tt, (lit≤ tt, (lit≤ tt, (lit≤ tt, (lit≤ tt, tt)))))
kind_high Kind.Tiny = (lit≤ tt, (lit≤ tt, (lit≤ tt, (lit≤ tt, tt))))

kind_named_lem : (k : Kind) → kind_named (kind_text k) ≡ Some k
unfolding kind_named same_bytes pick ◌and◌
kind_named_lem Kind.Section = refl
kind_named_lem Kind.Large = refl
kind_named_lem Kind.Small = refl
kind_named_lem Kind.Tiny = refl

kind_first : (k : Kind) (l : List ℕ) → run_length Class.Blank (kind_text k ++ l) ≡ 0
unfolding run_length belongs blank pick ◌or◌
kind_first Kind.Section l = refl
kind_first Kind.Large l = refl
kind_first Kind.Small l = refl
kind_first Kind.Tiny l = refl

kind_some : (k : Kind) (l : List ℕ) → length (kind_text k ++ l) ≡ 0 → ⊥
kind_some Kind.Section l e = omega arith
kind_some Kind.Large l e = omega arith
kind_some Kind.Small l e = omega arith
kind_some Kind.Tiny l e = omega arith

-- a printed line without its end
abbrev pub bare : Kind → ℕ → ℕ → List ℕ → List ℕ
bare k v p w = kind_column k ++ (hex_column 6 v ++ (hex_column 8 p ++ w))

-- is one line, and has no comment
abbrev pub Bare : Class → Type 0
Bare Class.Inline = Unit
Bare Class.Plain = Unit
Bare Class.Blank = ⊥
Bare Class.Solid = ⊥

bare_ink : (c : Class) → Bare c → Ink c
bare_ink Class.Inline b = tt
bare_ink Class.Plain b = tt
bare_ink Class.Blank b = absurd b
bare_ink Class.Solid b = absurd b

bare-blank : (c : Class) → Bare c → belongs c 32 ≡ true
unfolding belongs
bare-blank Class.Inline b = refl
bare-blank Class.Plain b = refl
bare-blank Class.Blank b = absurd b
bare-blank Class.Solid b = absurd b

three : (c : Class) → belongs c 32 ≡ true → In c (32 ∷ 32 ∷ 32 ∷ [])
unfolding run_length
three c e = pick_yes _ _ _ e ∙ ap suc (pick_yes _ _ _ e ∙ ap suc (pick_yes _ _ _ e))

in_blanks : (c : Class) → Bare c → (k : Kind) → In c (32 ∷ kind_blanks k)
unfolding run_length
in_blanks c b Kind.Section = in_one c 32 (bare-blank c b)
in_blanks c b Kind.Large = three c (bare-blank c b)
in_blanks c b Kind.Small = three c (bare-blank c b)
in_blanks c b Kind.Tiny = pick_yes _ _ _ (bare-blank c b) ∙ ap suc (three c (bare-blank c b))

in_column : (c : Class) → Bare c → (n x : ℕ) → In c (hex_column n x)
in_column c b n x = in_append c (hex_text n x) (32 ∷ []) (in_hex c (bare_ink c b) n x) (in_one c 32 (bare-blank c b))

pub in_bare : (c : Class) → Bare c → (k : Kind) (v p : ℕ) (w : List ℕ) → High w → In c (bare k v p w)
in_bare c b k v p w h =
    in_append c (kind_column k) (hex_column 6 v ++ (hex_column 8 p ++ w))
    (subst (In c) (sym (column_is k)) (in_append c (kind_text k) (32 ∷ kind_blanks k) (in_high c (bare_ink c b) (kind_text k) (kind_high k)) (in_blanks c b k)))
    (in_append c (hex_column 6 v) (hex_column 8 p ++ w) (in_column c b 6 v) (in_append c (hex_column 8 p) w (in_column c b 8 p) (in_high c (bare_ink c b) w h)))

-- the same line, word by word
spelled : (k : Kind) (v p : ℕ) (w : List ℕ) → bare k v p w ≡ [] ++ (kind_text k ++ ((32 ∷ kind_blanks k) ++ (hex_text 6 v ++ ((32 ∷ []) ++ (hex_text 8 p ++ ((32 ∷ []) ++ (w ++ [])))))))
spelled k v p w =
    ap₂ (λ (a b : List ℕ). a ++ (hex_column 6 v ++ (hex_column 8 p ++ b))) (column_is k) (sym (append-nil w))
    ∙ append_assoc (kind_text k) (32 ∷ kind_blanks k) (hex_column 6 v ++ (hex_column 8 p ++ (w ++ [])))
    ∙ ap (λ (m : List ℕ). kind_text k ++ ((32 ∷ kind_blanks k) ++ m)) (append_assoc (hex_text 6 v) (32 ∷ []) (hex_column 8 p ++ (w ++ [])))
    ∙ ap (λ (m : List ℕ). kind_text k ++ ((32 ∷ kind_blanks k) ++ (hex_text 6 v ++ ((32 ∷ []) ++ m)))) (append_assoc (hex_text 8 p) (32 ∷ []) (w ++ []))

kind_back : (k : Kind) (l : List ℕ) → run_length Class.Solid l ≡ 0 → from_kind ([] ++ (kind_text k ++ l)) ≡ from_virtual k l
unfolding from_kind run_length
kind_back k l s =
    pick_no _ _ _ (ne_eqb (run_length Class.Blank (kind_text k ++ l)) (length (kind_text k ++ l)) (λ e. kind_some k l (sym e ∙ kind_first k l)))
    ∙ ap₂ (λ (x y : List ℕ). after_kind (kind_named x) y)
    (word_here [] (kind_text k) l refl (kind_first k l) (in_high Class.Solid tt (kind_text k) (kind_high k)) s)
    (rest_here [] (kind_text k) l refl (kind_first k l) (in_high Class.Solid tt (kind_text k) (kind_high k)) s)
    ∙ ap (λ (n : Option Kind). after_kind n l) (kind_named_lem k)

-- a printed line says its mapping
module _ (k : Kind) (v p a : ℕ) (vl : v < 2 ^ 24) (pl : p < end) (vm : multiple k v ≡ true) (pm : multiple k p ≡ true) where
  pub said-bare : (q : List ℕ) (y : ℕ) → High (q ++ (y ∷ [])) → length q ≤ 1 → (y ≡ 13 → ⊥) → run_length Class.Blank (q ++ (y ∷ [])) ≡ 0 → access_named (q ++ (y ∷ [])) ≡ Some a
      → parsed (bare k v p (q ++ (y ∷ []))) ≡ Ok (Some (mapping k v p a))
  said-bare q y h n r b e =
      let w : List ℕ = q ++ (y ∷ []) in
      let wl = length-append q (y ∷ []) in
      let Q : List ℕ = kind_column k ++ (hex_column 6 v ++ (hex_column 8 p ++ q)) in
      let same_bytes : bare k v p w ≡ Q ++ (y ∷ []) =
      ap (λ (m : List ℕ). kind_column k ++ (hex_column 6 v ++ m)) (sym (append_assoc (hex_column 8 p) q (y ∷ [])))
      ∙ ap (λ (m : List ℕ). kind_column k ++ m) (sym (append_assoc (hex_column 6 v) (hex_column 8 p ++ q) (y ∷ [])))
      ∙ sym (append_assoc (kind_column k) (hex_column 6 v ++ (hex_column 8 p ++ q)) (y ∷ [])) in
      let short : length (Q ++ (y ∷ [])) ≤ 200 =
      omega (
        arith,
        length-append Q (y ∷ []),
        length-append (kind_column k) (hex_column 6 v ++ (hex_column 8 p ++ q)),
        length-append (hex_column 6 v) (hex_column 8 p ++ q),
        length-append
            (hex_column 8 p) q,
        kind_length k,
        six_length v,
        eight_length p,
      ) in
      ap parsed same_bytes
      ∙ said-whole Q y r short (subst (In Class.Plain) same_bytes (in_bare Class.Plain tt k v p w h))
      ∙ ap from_kind (sym same_bytes ∙ spelled k v p w)
      ∙ kind_back k ((32 ∷ kind_blanks k) ++ (hex_text 6 v ++ ((32 ∷ []) ++ (hex_text 8 p ++ ((32 ∷ []) ++ (w ++ [])))))) (solid_none _)
      ∙ virtual_back k v p a vl pl vm pm w (in_high Class.Solid tt w h) b (omega arith) e (32 ∷ kind_blanks k) (blanks_are k)
