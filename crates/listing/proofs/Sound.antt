-- A mapping that a line says is proper, and its record is well-formed. Assumes nothing.
use Rattle.listing.specs.Names.{Wrong}
use Rattle.listing.specs.declared.AddressError.{AddressError}
use Rattle.std.proofs.Common.{Option, Some, None}
use Rattle.std.proofs.Common.{Result, Ok, Err}
use Rattle.listing.specs.declared.NumberError.{NumberError}
use Rattle.listing.specs.Names.{◌≡◌, Bool, true, false, List, ℕ, ◌<◌, eqb, ltb, ◌and◌, ◌or◌, megabytes, limit, type_of}
use Rattle.listing.specs.Names.{Kind, Mapping, multiple, well_formed}
use Rattle.listing.proofs.Names.{refl, sym, ap, ◌∙◌, arith, lt-ltb, leb-false, eqb-true, pick_by, and_yes, and_right}
use Rattle.listing.proofs.Names.{or_no, proper, end, hex_number, word, rest, kind_named, access_named, address_by, address_in}
use Rattle.listing.proofs.Names.{mapping, line_ended, from_access, after_access, after_physical, from_physical, after_virtual, from_virtual, after_kind, from_kind}
use Rattle.listing.proofs.Names.{uncommented, body, parsed, record_of}
use Rattle.records.proofs.Records.{record_says}

-- an address that is read lies below its end and is a multiple of the page's size
abbrev Stands : ℕ → Kind → Result ℕ AddressError → Type 0
Stands top k (Ok x) = (x < top) × (multiple k x ≡ true)
Stands top k (Err AddressError.Missing) = Unit
Stands top k (Err AddressError.NotHex) = Unit
Stands top k (Err AddressError.TooLarge) = Unit
Stands top k (Err AddressError.Uneven) = Unit

by_stands : (top : ℕ) (k : Kind) (n : Result ℕ NumberError) → Stands top k (address_by top k n)
by_stands top k (Ok x) = pick_by (Stands top k) _ _ _ (λ _. tt) (λ b. pick_by (Stands top k) _ _ _ (λ m. (leb-false top x b, m)) (λ _. tt))
by_stands top k (Err NumberError.TooLarge) = tt
by_stands top k (Err NumberError.NotHex) = tt

stands : (top : ℕ) (k : Kind) (w : List ℕ) → Stands top k (address_in top k w)
unfolding address_in
stands top k w = pick_by (Stands top k) _ _ _ (λ _. tt) (λ _. by_stands top k (hex_number w))

-- an access that is named is 2 or 3
abbrev Allowed : Option ℕ → Type 0
Allowed (Some a) = (eqb a 2 or eqb a 3) ≡ true
Allowed None = Unit

access_allowed : (w : List ℕ) → Allowed (access_named w)
unfolding access_named ◌or◌
access_allowed w = pick_by Allowed _ _ _ (λ _. refl) (λ _. pick_by Allowed _ _ _ (λ _. refl) (λ _. tt))

-- a mapping that is proper, and whose addresses have 24 and 32 bits
pub record Sound (m : Mapping) : Type 0 where
  pub formed : proper megabytes m ≡ true
  pub virtual : m.at.0 < limit
  pub physical : m.to.0 < end

abbrev pub SoundSaid : Result (Option Mapping) Wrong → Type 0
SoundSaid (Ok None) = Unit
SoundSaid (Ok (Some m)) = Sound m
SoundSaid (Err w) = Unit

module _ (k : Kind) (v p : ℕ) (vs : (v < limit) × (multiple k v ≡ true)) (ps : (p < end) × (multiple k p ≡ true)) where
  made : (a : ℕ) → (eqb a 2 or eqb a 3) ≡ true → Sound (mapping k v p a)
  unfolding proper
  made a h = record
      { formed = and_yes _ _ (lt-ltb v limit vs.0) ∙ and_yes _ _ vs.1 ∙ and_yes _ _ ps.1 ∙ h; virtual = vs.0; physical = ps.0 }

  sound-ended : (a : ℕ) (l : List ℕ) → (eqb a 2 or eqb a 3) ≡ true → SoundSaid (line_ended (mapping k v p a) l)
  unfolding line_ended
  sound-ended a l h = pick_by SoundSaid _ _ _ (λ _. made a h) (λ _. tt)

  sound_access : (l : List ℕ) → SoundSaid (from_access k v p l)
  unfolding from_access
  sound_access l = pick_by SoundSaid _ _ _ (λ _. tt) (λ _. go (access_named (word l)) (access_allowed (word l)))
    where
      go : (a : Option ℕ) → Allowed a → SoundSaid (after_access k v p a (rest l))
      go (Some a) h = sound-ended a (rest l) h
      go None h = tt

sound-physical : (k : Kind) (v : ℕ) → (v < limit) × (multiple k v ≡ true) → (l : List ℕ) → SoundSaid (from_physical k v l)
unfolding from_physical
sound-physical k v vs l = go (address_in end k (word l)) (stands end k (word l))
  where
    go : (a : Result ℕ AddressError) → Stands end k a → SoundSaid (after_physical k v a (rest l))
    go (Ok p) s = sound_access k v p vs s (rest l)
    go (Err AddressError.Missing) s = tt
    go (Err AddressError.NotHex) s = tt
    go (Err AddressError.TooLarge) s = tt
    go (Err AddressError.Uneven) s = tt

sound-virtual : (k : Kind) (l : List ℕ) → SoundSaid (from_virtual k l)
unfolding from_virtual
sound-virtual k l = go (address_in limit k (word l)) (stands limit k (word l))
  where
    go : (a : Result ℕ AddressError) → Stands limit k a → SoundSaid (after_virtual k a (rest l))
    go (Ok v) s = sound-physical k v s (rest l)
    go (Err AddressError.Missing) s = tt
    go (Err AddressError.NotHex) s = tt
    go (Err AddressError.TooLarge) s = tt
    go (Err AddressError.Uneven) s = tt

sound_kind : (n : Option Kind) (l : List ℕ) → SoundSaid (after_kind n l)
sound_kind (Some k) l = sound-virtual k l
sound_kind None l = tt

sound-line : (l : List ℕ) → SoundSaid (from_kind l)
unfolding from_kind
sound-line l = pick_by SoundSaid _ _ _ (λ _. tt) (λ _. sound_kind (kind_named (word l)) (rest l))

pub sound-said : (l : List ℕ) → SoundSaid (parsed l)
unfolding parsed
sound-said l = pick_by SoundSaid _ _ _ (λ _. tt) (λ _. sound-line (uncommented (body l)))

-- a sound mapping's record is well-formed
type_small : (k : Kind) → ltb (type_of k) 4 ≡ true
type_small Kind.Section = refl
type_small Kind.Large = refl
type_small Kind.Small = refl
type_small Kind.Tiny = refl

two_or_three : (a : ℕ) → (eqb a 2 or eqb a 3) ≡ true → a < 256
two_or_three a h = either (eqb a 2) (λ e. let z = eqb-true a 2 e in omega arith) (λ e. let z = eqb-true a 3 (sym (or_no _ _ e) ∙ h) in omega arith)
  where
    either : (b : Bool) → (b ≡ true → a < 256) → (b ≡ false → a < 256) → a < 256
    either true f g = f refl
    either false f g = g refl

access_small : (m : Mapping) → Sound m → m.access < 256
unfolding proper
access_small m s = two_or_three m.access (and_right _ _ (and_right _ _ (and_right _ _ s.formed)))

pub record_formed : (m : Mapping) → Sound m → well_formed megabytes (record_of m) ≡ true
unfolding well_formed record_of ◌and◌
record_formed m s =
    and_yes _ _ (type_small m.kind) ∙ and_yes _ _ (ap (proper megabytes)
    (record_says m (record { virtual = omega (arith, s.virtual); physical = s.physical; access = access_small m s })) ∙ s.formed)
