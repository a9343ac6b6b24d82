use Rattle.std.proofs.Common.{◌≡◌, ◌&&◌, true, ℕ, Bool}
use Rattle.std.specs.List.{fold}
use Rattle.lanes.proofs.Names.{rules, ◌∙◌, cam_ok}
use Rattle.lanes.proofs.Loops.{all_fold}
use Rattle.lanes.proofs.cams_ok.Goals as goal

pub returns : goal.returns
returns c =
    let p = cam_ok c.args.limit in
    let e : c.fold.result ≡ fold (λ (ok : Bool) (w : ℕ). ok && p w) true c.args.cam.now = search rules in
    e ∙ all_fold p c.args.cam.now 32 (search rules)
