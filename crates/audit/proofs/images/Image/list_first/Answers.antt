use Rattle.audit.proofs.Names.{◌∙◌, ap, sym, first_pages}
use Rattle.audit.proofs.Putting.{put_none, put_same}
use Rattle.audit.proofs.images.Image.list_first.Goals as goal

pub returns-in-Fault : goal.returns-in-Fault
returns-in-Fault c =
    let x = c.args in
    let m = x.self.now in
    put_same _ _ x.from x.from x.out.now x.out.now (sym (ap (first_pages m.memory.now m.base x.i) (sym c.first.ensures ∙ c.in-Fault.is))) (put_none x.from x.out.now)
