use Rattle.audit.specs.Names.{◌≡◌, ℕ, megabytes, records_of, pasted}
use Rattle.audit.proofs.Names.{◌∙◌, refl, subst, arith, level_pages}
use Rattle.audit.proofs.Putting.{first_fits, level_put, put_start}
use Rattle.audit.proofs.images.Image.list.Goals as goal

pub loop-i-init : goal.loop-i-init
loop-i-init c = (refl, put_start _ _ _)

pub list_first-at-requires : goal.list_first-at-requires
list_first-at-requires c =
    let x = c.args in
    let m = x.self.now in
    record {
      sound = c.requires.sound c.loop-i.i (omega arith);
      megabyte = omega arith;
      records = first_fits m.memory.now m.base megabytes c.loop-i.i c.loop-i.at x.out.now c.loop-i.out (omega arith) c.requires.records c.loop-i.invariant.1;
    }

pub loop-i-preserved : goal.loop-i-preserved
loop-i-preserved c =
    let x = c.args in
    let m = x.self.now in
    let v = c.loop-i.invariant in (
      c.list_first-at.auto.out ∙ v.0,
      level_put m.memory.now m.base megabytes c.loop-i.i c.loop-i.at x.out.now c.loop-i.out (omega arith) c.requires.records v.1 _ _ c.list_first-at.ensures,
    )

pub returns : goal.returns
returns c =
    let x = c.args in
    let m = x.self.now in
    let z : c.loop-i.i ≡ megabytes = omega arith in
    subst (λ (k : ℕ). c.loop-i.out ≡ pasted x.out.now 0 (records_of (level_pages m.memory.now m.base 0 k))) z c.loop-i.invariant.1.1
