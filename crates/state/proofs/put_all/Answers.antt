use Rattle.state.specs.Names.{List, ◌++◌, words_put, ℕ, ◌+◌}
use Rattle.state.proofs.Names.{device_words, meter_words, bill_words, refl, ◌∙◌, ap}
use Rattle.state.proofs.Lengths.{device-length}
use Rattle.state.proofs.Parts.{two}
use Rattle.state.proofs.put_all.Goals as goal

pub returns : goal.returns
returns c =
    let x = c.args in let b = x.b in
    two x.out.now c.put_device.new.out _ (device_words x.handed b.device) (meter_words b.meters ++ bill_words b.bill) x.at
    (device-length x.handed b.device) refl c.requires c.put_device.auto.out c.put_device.ensures
    (c.put.ensures ∙ ap (λ (ws : List ℕ). words_put c.put_device.new.out (x.at + 292) ws) c.rest_words.ensures)
