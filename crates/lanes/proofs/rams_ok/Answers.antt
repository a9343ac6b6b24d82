use Rattle.std.proofs.Common.{◌≡◌, ◌&&◌, true, ℕ, Bool}
use Rattle.std.specs.List.{fold}
use Rattle.lanes.proofs.Names.{rules, ◌∙◌, ram_ok}
use Rattle.lanes.proofs.Loops.{all_fold}
use Rattle.lanes.proofs.rams_ok.Goals as goal

pub returns : goal.returns
returns c =
    let p = ram_ok in
    let e : c.fold.result ≡ fold (λ (ok : Bool) (w : ℕ). ok && p w) true c.args.ram.now = search rules in
    e ∙ all_fold p c.args.ram.now 32 (search rules)
