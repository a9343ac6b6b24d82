-- What holds before each call of a run. Assumes nothing.
use Rattle.std.proofs.Common.{Option}
use Rattle.run.specs.Names.{◌≡◌, Bool, true, List, ℕ, ◌+◌, ◌*◌, ◌≤◌, length, ◌and◌, Lent, posted, Meters, Prices, bill_ok, Bill, Bank, Stall}
use Rattle.run.specs.Names.{Registers, Place, Plan, Done, Call, stepped, Bench, Stepped, placed, words_put}
use Rattle.run.proofs.Names.{sym, ◌∙◌, ap, ap₂, arith, ◌<◌, lent_ok, money_ok, Fit, performed, BytesFit, call_at, is_good, said_words}
use Rattle.run.proofs.Names.{parts_ok, plan_of, bench_of, bench_done}
use mathlib.Core.Path.{subst}
use Rattle.prices.specs.Prices.{prices_ok}
use Rattle.perform.specs.Performed.{done_of}
use Rattle.perform.specs.declared.Performed.{Performed}
use Rattle.run.specs.Answers.{cut_place}
use Rattle.run.proofs.Offsets.{stepped-whole}
use Rattle.run.proofs.Turns.{left, run_turn}
use Rattle.run.proofs.Planned.{Narrow, narrow_at, planned, planned_stepped, planned_fits, range_same}

-- the parts make the bench from which the rest of the session is still to be written, and whether it is in range is known
pub record Going (m : Lent) (p : Prices) (handed : ℕ) (calls : List ℕ) (n : ℕ) (start : Bench) (first out : List ℕ) (r : Registers) (k : Bank)
    (q : Option Stall) (b : Bill) (t : Meters) (ok : Bool) (i : ℕ) : Type 0 where
  pub long : length out ≡ length first
  pub same : placed first 0 (left m p handed calls n start 0) ≡ placed out (16 * i) (left m p handed calls n (bench_of r k q b t) i)
  pub ranged : ok ≡ parts_ok r k q

module _ (m : Lent) (p : Prices) (handed : ℕ) (calls : List ℕ) (n : ℕ) (start : Bench) (first : List ℕ) (fits : 16 * n + 328 ≤ length first) (out : List ℕ)
    (r : Registers) (k : Bank) (q : Option Stall) (b : Bill) (t : Meters) (ok : Bool) (i : ℕ)
    (g : Going m p handed calls n start first out r k q b t ok i) (h : i < n)
    (memories money : Bool) (me : memories ≡ lent_ok m) (mo : money ≡ prices_ok p)
    (c : Option Call) (x : Plan) (xe : x ≡ plan_of ok memories (money and bill_ok b) r.control q c) where
  -- the plan by what holds is the plan by what was tested
  plan_is : x ≡ planned m p r k q b c
  unfolding money_ok
  plan_is =
      xe
      ∙ ap₂ (λ (u v : Bool). plan_of u v (money and bill_ok b) r.control q c) g.ranged me
      ∙ ap (λ (u : Bool). plan_of (parts_ok r k q) (lent_ok m) (u and bill_ok b) r.control q c) mo

  pub going_fits : Fit r.control k.cam k.lock k.victim x
  going_fits = subst (Fit r.control k.cam k.lock k.victim) (sym plan_is) (planned_fits m p r k q b c)

  -- a call, performed
  pub going_on : BytesFit m → c ≡ call_at calls (12 * i) → is_good c ≡ true
      → (y : Performed) (l : Bank) (o : List ℕ) (tm : Meters)
      → done_of y l ≡ performed m p b r k q x
      → tm ≡ posted t y.tally → length o ≡ length out → o ≡ words_put out (16 * i) (said_words y.said (cut_place y.from))
      → Going m p handed calls n start first o y.registers l y.pending y.bill tm ok (i + 1)
  going_on bytes ce good y l o tm done te ol w =
      let e : done_of y l ≡ performed m p b r k q (planned m p r k q b c) = done ∙ ap (performed m p b r k q) plan_is in
      let s : Stepped = record { bench = bench_of y.registers l y.pending y.bill tm; said = y.said; from = y.from } in
      let se : s ≡ stepped m p (bench_of r k q b t) c =
      ap (λ (z : Meters). record { bench = bench_of y.registers l y.pending y.bill z; said = y.said; from = y.from }) te
      ∙ ap (bench_done t) e
      ∙ planned_stepped m p r k q b t c good in
      let whole : cut_place y.from ≡ y.from = subst (λ (z : Stepped). cut_place z.from ≡ z.from) (sym se) (stepped-whole m p (bench_of r k q b t) c) in
      record {
        long = ol ∙ g.long;
        same = g.same ∙ run_turn m p handed calls n out o (bench_of r k q b t) i s h (omega (arith, g.long)) (se ∙ ap (stepped m p (bench_of r k q b t)) ce)
            (w ∙ ap (λ (f : Place). words_put out (16 * i) (said_words y.said f)) whole);
        ranged =
            g.ranged
            ∙ sym (range_same m p r k q b c good (subst Narrow (sym ce) (narrow_at calls (12 * i))) bytes)
            ∙ sym (ap (λ (z : Done). parts_ok z.registers z.bank z.pending) e);
      }
