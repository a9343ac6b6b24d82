use Rattle.std.proofs.Common.{Option}
use Rattle.run.specs.Names.{Bank, Call, lent_of, placed, words_put, state_words, ℕ, ◌≡◌, ◌+◌, ◌*◌, ◌≤◌, length, List}
use Rattle.run.proofs.Names.{BytesFit, bench_of, parts_ok, session_words, is_good, ◌-◌, refl, sym, ◌∙◌, ap, ap₂, arith, rules}
use Rattle.run.specs.Run.{ran}
use Rattle.run.proofs.Going.{Going, going_fits, going_on}
use Rattle.run.proofs.Turns.{left, run_end}
use Rattle.calls.proofs.Rest.{calls-all, all_good_at}
use Rattle.run.proofs.run_all.Goals as goal

pub loop-i-init : goal.loop-i-init
loop-i-init c =
    let x = c.args in
    let d = x.start.device in (
      record {
        long = refl;
        same = ap (λ (k : Bank). placed x.out.now 0 (left (lent_of x.memories.now) x.prices x.handed x.calls.now c.count-n.result (bench_of d.registers k d.pending x.start.bill x.start.meters) 0)) (sym c.of-slots.ensures.bank);
        ranged = c.in_range-ok.ensures ∙ ap (λ (k : Bank). parts_ok d.registers k d.pending) (sym c.of-slots.ensures.bank);
      },
      c.of-slots.ensures.ends,
    )

pub overflow_mul-i-in-loop-i : goal.overflow_mul-i-in-loop-i
overflow_mul-i-in-loop-i c = record { fits = omega (arith, c.requires.room, c.count-n.ensures, c.loop-i-test.true) }

pub loop-i-preserved : goal.loop-i-preserved
loop-i-preserved c =
    let x = c.args in
    let m = lent_of x.memories.now in
    let l = c.loop-i in
    let n = c.count-n.result in
    let h = c.loop-i-test.true in
    let e = all_good_at x.calls.now l.i c.requires.good (omega (arith, h, c.count-n.ensures)) in
    let d = c.decode_known-call.ensures e in
    let fits : 16 * n + 328 ≤ length x.out.now = omega (arith, c.requires.room, c.count-n.ensures) in
    let bytes : BytesFit m = (c.told_bytes.ensures, c.told_bytes-2.ensures) in
    let f = going_fits m x.prices x.handed x.calls.now n x.start x.out.now fits l.out l.registers l.slots.bank l.pending l.bill
    l.meters c.in_range-ok.result l.i l.invariant.0 h c.ok-lent.result c.prices_ok-money.result c.ok-lent.ensures
    c.prices_ok-money.ensures c.decode_known-call.result c.plan_of-plan.result c.plan_of-plan.ensures in (
      going_on m x.prices x.handed x.calls.now n x.start x.out.now fits l.out l.registers l.slots.bank l.pending l.bill l.meters
          c.in_range-ok.result l.i l.invariant.0 h c.ok-lent.result c.prices_ok-money.result c.ok-lent.ensures c.prices_ok-money.ensures
          c.decode_known-call.result c.plan_of-plan.result c.plan_of-plan.ensures bytes
          d (ap is_good d ∙ e) c.perform-x.result _ _ _ (c.perform-x.ensures.done l.invariant.1 f) c.posted-meters.ensures c.put_said.auto.out c.put_said.ensures,
      c.perform-x.ensures.ends l.invariant.1,
    )

pub returns : goal.returns
returns c =
    let x = c.args in
    let m = lent_of x.memories.now in
    let l = c.loop-i in
    let n = c.count-n.result in
    let end = λ (k : Bank). bench_of l.registers k l.pending l.bill l.meters in
    ap₂ ran (ap (λ (k : ℕ). 16 * k + 328) c.count-n.ensures)
    (c.put_state.ensures ∙ sym
    (run_end m x.prices x.handed x.calls.now n l.out (end l.slots.bank) l.i c.loop-i-test.false (omega arith)
    (omega (arith, c.requires.room, c.count-n.ensures, l.invariant.0.long))) ∙ sym l.invariant.0.same ∙ ap
    (λ (cs : List (Option Call)). placed x.out.now 0 (session_words m x.prices x.handed x.start cs)) (calls-all x.calls.now _ _ c.count-n.ensures))
