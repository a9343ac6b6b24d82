-- Demand 3 in the buyer's order, and a session with list A. Assumes nothing.
use Rattle.std.proofs.Common.{Ok}
use Rattle.demands.specs.Demands.Names.{◌≡◌, Bool, true, List, [], ◌∷◌, ◌++◌, ℕ, zero, suc, ◌<◌, ltb, length, drop, replicate, Access, virtual}
use Rattle.demands.specs.Demands.Names.{megabytes, Lent, LentAt, lent_ok, mappings, meaning, image_length, image, room_ok, answer_of, build_of}
use Rattle.demands.specs.Demands.Names.{money_ok, fresh_bill, Answer, BilledCall, after, Admitted, Standing, Bytes, records_a, base_a, Device}
use Rattle.demands.proofs.Names.{refl, sym, ◌∙◌, ap, ap₂, subst, inl, inr, arith, pick, byte_of, holder, image_length-is, accepted}
use Rattle.demands.proofs.Names.{leaves-image, meant_as, ValuesFit, Session}
use Prim.Native.Nat.{◌+◌, ◌-◌, ◌/◌}
use lib.Count.{count_trailing_zeros}
use lib.Ieee.{of_fields, of_bits, odd, le, lt, eq}
use lib.ListN.{get_or, length-append, length-drop, length-replicate}
use borrow.Author.Tests.{ltb-true}
use Rattle.page.specs.Pick.{◌and◌, ◌or◌}
use Rattle.page.specs.Low.{upper, joined}
use Rattle.page.specs.Words.{kind_of}
use Rattle.page.proofs.Picks.{and_left, and_right}
use Rattle.memory.specs.Memory.{memories_ok}
use Rattle.memory.proofs.Places.{none_beside}
use Rattle.wire.specs.Words.{word_of, word_bytes}
use Rattle.records.specs.Mappings.{mappings_from, mapping_of, holds}
use Rattle.wire.specs.Spliced.{bytes_by}
use Rattle.prices.specs.Prices.{figure_ok, every}
use Rattle.translates.specs.Statements.{Has}
use Rattle.translates.proofs.Theorems.{built-has}
use Rattle.wire.proofs.Reading.{bytes-append, bytes_drop, word_bytes_lem, zero-bytes}
use Rattle.translates.proofs.Samples.{accepts_a}
use Rattle.demands.specs.Buyer.{BuiltThenCalled, built_in, BuiltSession, room_a, prices_a, memory_a, device_a, calls_a, byte_a, Exhibited}
use Rattle.demands.proofs.Lists.{start_is}
use Rattle.demands.proofs.Proved.{demand_3}
use Rattle.demands.proofs.Answering.{requests-answered}

-- a memory that was built in has the image, wherever it is lent
module _ (rs : List ℕ) (base len : ℕ) (before : List ℕ) where
  pub answer-is : (build_of rs base before).answer ≡ Ok len → answer_of rs base (length before) ≡ Ok len
  unfolding build_of
  answer-is e = e

  stands_at : (l : List ℕ) (b : ℕ) → l ≡ (build_of rs base before).memory → b ≡ base → answer_of rs base (length before) ≡ Ok len
      → Has l b base (image megabytes (mappings rs) base)
  stands_at l b e f h =
      subst (λ (x : ℕ). Has l x base (image megabytes (mappings rs) base)) (sym f)
      (subst (λ (x : List ℕ). Has x base base (image megabytes (mappings rs) base)) (sym e) (built-has rs base len before h))

  pub stands : (m : Lent) → LentAt (build_of rs base before).memory base m → answer_of rs base (length before) ≡ Ok len → Standing m base (image megabytes (mappings rs) base)
  stands m (inl l) h = inl (stands_at m.on m.onbase l.0 l.1 h)
  stands m (inr l) h = inr (stands_at m.ext m.extbase l.0 l.1 h)

-- and it is lent by `built_in`
pub is-lent : (rs : List ℕ) (base : ℕ) (before : List ℕ) → LentAt (build_of rs base before).memory base (built_in rs base before)
is-lent rs base before = inr (refl, refl)

pub built_then_called : BuiltThenCalled
built_then_called rs base len before m v p b₀ cs b c va a r bytes e l =
    demand_3 rs base (length before) len m v p b₀ cs b c va a r bytes (answer-is rs base len before e) (stands rs base len before m l (answer-is rs base len before e))

-- bytes
bytes_of : (f : ℕ → ℕ) (k : ℕ) → Bytes (bytes_by f k)
unfolding bytes_by
bytes_of f zero = λ i. omega arith
bytes_of f (suc k) = bytes-append (bytes_by f k) (word_bytes (f k)) (bytes_of f k) (word_bytes_lem (f k))

-- a list whose every member is below 256
abbrev below : List ℕ → Bool
below [] = true
below (x ∷ xs) = ltb x 256 and below xs

bytes_below : (l : List ℕ) → below l ≡ true → Bytes l
bytes_below [] h i = omega arith
bytes_below (x ∷ xs) h zero = ltb-true x 256 (and_left _ _ h)
bytes_below (x ∷ xs) h (suc i) = bytes_below xs (and_right (ltb x 256) _ h) i

-- an accepted build leaves as many bytes as there were, and bytes where there were bytes
module _ (rs : List ℕ) (base len : ℕ) (before : List ℕ) (e : answer_of rs base (length before) ≡ Ok len) where
  abbrev img : List ℕ
  img = image megabytes (mappings rs) base

  pub built-length : length (build_of rs base before).memory ≡ length before
  built-length =
      let a = accepted rs base (length before) len e in
      ap length (leaves-image rs base len before e)
      ∙ length-append img (drop len before)
      ∙ ap₂ (λ (x y : ℕ). x + y) (image_length-is megabytes (mappings rs) base) (length-drop len before)
      ∙ (let f = a.fits in let g = a.length-is in omega arith)

  built-bytes : Bytes before → Bytes (build_of rs base before).memory
  unfolding image
  built-bytes h =
      subst Bytes (sym (leaves-image rs base len before e))
      (bytes-append img (drop len before) (bytes_of _ (image_length megabytes (mappings rs) / 4)) (bytes_drop len before h))

  pub built-lent : lent_ok (built_in rs base before) ≡ true
  unfolding room_ok
  built-lent =
      let a = accepted rs base (length before) len e in
      subst (λ (n : ℕ). memories_ok 0 0 base n ≡ true) (sym built-length) (none_beside base (length before) (and_right _ _ a.memory))

pub built-session : BuiltSession
built-session rs base len before v p b cs bytes old e on adm fit =
    let h = answer-is rs base len before e in
    record {
      room = length before;
      len = len;
      v = v;
      p = p;
      b = b;
      calls = cs;
      bytes = bytes;
      accepted = h;
      lent = built-lent rs base len before h;
      lent-bytes = (λ i. omega arith, built-bytes rs base len before h old);
      standing = stands rs base len before (built_in rs base before) (is-lent rs base before) h;
      on = on;
      admitted = adm;
      values = fit;
      device = refl;
    }

-- list A
bytes_a : Bytes records_a
unfolding ◌and◌
bytes_a = bytes_below records_a refl

built_a : (build_of records_a base_a (replicate room_a 0)).answer ≡ Ok room_a
unfolding build_of
built_a = ap (answer_of records_a base_a) (length-replicate {A = ℕ} room_a 0) ∙ accepts_a

session_a : (cs : List BilledCall) → Admitted cs → ValuesFit cs → Session records_a base_a memory_a (after memory_a device_a cs)
session_a cs adm fit = built-session records_a base_a room_a (replicate room_a 0) 7 prices_a fresh_bill cs bytes_a (zero-bytes room_a) built_a refl adm fit

-- what the list says of one address
byte_a_lem : meant_as (meaning (mappings records_a) (virtual 0x012345) Access.Read) ≡ Answer.Address byte_a
unfolding meaning holder holds byte_of mappings mappings_from mapping_of word_of kind_of pick ◌and◌ ◌or◌ upper joined
byte_a_lem = refl

money_a : money_ok prices_a fresh_bill ≡ true
unfolding money_ok every figure_ok le lt eq of_bits of_fields odd count_trailing_zeros pick ◌and◌ ◌or◌
money_a = refl

pub exhibited : Exhibited
unfolding ◌and◌ ◌or◌
exhibited = record {
  first = session_a [] tt tt;
  session = session_a calls_a (refl, (refl, (refl, (refl, (refl, (refl, (refl, tt))))))) (tt, (tt, (omega arith, (tt, (omega arith, (tt, (tt, tt)))))));
  answers =
      (requests-answered records_a base_a memory_a device_a (session_a [] tt tt) prices_a fresh_bill (virtual 0x012345) Access.Read
      (ap (λ (d : Device). d.pending) (start_is records_a base_a room_a room_a accepts_a memory_a 7 prices_a fresh_bill refl)) (omega arith) money_a).answer
      ∙ byte_a_lem;
}
