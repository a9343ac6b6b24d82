use lib.ListN.{length-drop}
use lib.Seq.{take_all}
use Rattle.parting.specs.Names.{◌-◌, ◌≤◌, drop, length}
use Rattle.parting.proofs.Names.{refl, arith}
use Rattle.parting.proofs.rest.Goals as goal

pub returns : goal.returns
returns c =
    let x = c.args in
    let l = x.image.now in
    record {
      bytes = take_all _ (drop x.k l) (let z : length (drop x.k l) ≤ length l - x.k = omega (arith, length-drop x.k l) in z);
      source = refl;
    }
