-- A page that a walk over bytes finds starts below 2^32. Assumes nothing.
use Rattle.std.proofs.Common.{Result, Ok, Err, Option, Some, None}
use Rattle.walk.specs.declared.Unfound.{Unfound}
use Rattle.walk.specs.declared.Page.{Page}
use Rattle.conduct.specs.Names.{ℕ, ◌^◌, ◌<◌, Lent}
use Rattle.conduct.proofs.Names.{arith, pick_by, place_in, word_of, first_of, read_in, walk_from, BytesFit}
use native.Mathlib.Nat.{lt_of_le_of_lt}
use lib.ListN.{drop}
use Rattle.page.specs.Words.{low_bits}
use Rattle.page.proofs.Lower.{upper-le}
use Rattle.memory.specs.Memory.{part_at, fetched_in}
use Rattle.wire.specs.Words.{Bytes}
use Rattle.wire.proofs.Reading.{bytes_drop, bytes_take, word_lt}
use Rattle.memory.specs.declared.Place.{Place}
use Rattle.memory.specs.declared.Source.{Source}
use Rattle.walk.specs.Descriptors.{second_of}
use Rattle.walk.specs.Walk.{coarse_at, fine_at, read_at, source_at, after_second, by_first, after_first, walk_in}
use Rattle.walk.specs.declared.First.{First}
use Rattle.walk.specs.declared.Table.{Table}
use Rattle.walk.proofs.Laws.{second_by}

-- the bytes at a place are bytes
place_fits : (m : Lent) → BytesFit m → (p : Place) → Bytes (part_at m p)
place_fits m f (Place.OnChip k) = bytes_take 4 (drop k m.on) (bytes_drop k m.on f.0)
place_fits m f (Place.External k) = bytes_take 4 (drop k m.ext) (bytes_drop k m.ext f.1)
place_fits m f Place.Nowhere = λ i. omega arith

abbrev ReadFits : Option (ℕ × Place) → Type 0
ReadFits (Some (w, p)) = w < 2 ^ 32
ReadFits None = Unit {0}

read_at_fits : (w : ℕ) → w < 2 ^ 32 → (p : Place) → ReadFits (read_at w p)
read_at_fits w h (Place.OnChip k) = h
read_at_fits w h (Place.External k) = h
read_at_fits w h Place.Nowhere = tt

read_fits : (m : Lent) → BytesFit m → (a : ℕ) → ReadFits (read_in m a)
unfolding read_in
read_fits m f a = read_at_fits (word_of (fetched_in m a)) (word_lt (fetched_in m a) (place_fits m f (place_in m a))) (place_in m a)

-- a page starts no later than its word
abbrev pub FrameFits : Result Page Unfound → Type 0
FrameFits (Ok p) = p.frame.0 < 2 ^ 32
FrameFits (Err Unfound.NoPage) = Unit {0}
FrameFits (Err Unfound.Missing) = Unit {0}

abbrev FirstFits : First → Type 0
FirstFits First.Fault = Unit {0}
FirstFits (First.Whole p) = p.frame.0 < 2 ^ 32
FirstFits (First.Coarse t) = Unit {0}
FirstFits (First.Fine t) = Unit {0}

module _ (w : ℕ) (h : w < 2 ^ 32) where
  first_fits : FirstFits (first_of w)
  unfolding first_of
  first_fits =
      pick_by FirstFits _ _ _ (λ _. tt)
      (λ _. pick_by FirstFits _ _ _ (λ _. tt)
      (λ _. pick_by FirstFits _ _ _ (λ _. lt_of_le_of_lt (upper-le 20 w) h) (λ _. tt)))

  second_fits : (t : Table) → FrameFits (second_of t w)
  second_fits t = second_by FrameFits w tt t (λ k _ _. lt_of_le_of_lt (upper-le (low_bits k) w) h)

module _ (rd : ℕ → Option (ℕ × Place)) (f : (a : ℕ) → ReadFits (rd a)) (va : ℕ) where
  after_second_lem : (t : Table) (s : Source) (b : ℕ) (r : Option (ℕ × Place)) → ReadFits r → FrameFits (after_second t s b r).found
  after_second_lem t s b None h = tt
  after_second_lem t s b (Some (w, p)) h = second_fits w h t

  by_first_lem : (s : Source) (x : First) → FirstFits x → FrameFits (by_first rd va s x).found
  by_first_lem s First.Fault h = tt
  by_first_lem s (First.Whole p) h = h
  by_first_lem s (First.Coarse t) h = after_second_lem Table.Coarse s (coarse_at t va) (rd (coarse_at t va)) (f (coarse_at t va))
  by_first_lem s (First.Fine t) h = after_second_lem Table.Fine s (fine_at t va) (rd (fine_at t va)) (f (fine_at t va))

  after_first_lem : (a : ℕ) (r : Option (ℕ × Place)) → ReadFits r → FrameFits (after_first rd first_of va a r).found
  after_first_lem a None h = tt
  after_first_lem a (Some (w, p)) h = by_first_lem (source_at a p) (first_of w) (first_fits w h)

  walk_from_fits : (a : ℕ) → FrameFits (walk_from rd first_of va a).found
  unfolding walk_from
  walk_from_fits a = after_first_lem a (rd a) (f a)

pub walk_fits : (m : Lent) → BytesFit m → (base va : ℕ) → FrameFits (walk_in m base va).found
walk_fits m f base va = walk_from_fits (read_in m) (read_fits m f) va _
