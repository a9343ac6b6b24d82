use Rattle.state.specs.Names.{List, words_put, ℕ, ◌+◌}
use Rattle.state.proofs.Names.{slot_words, pending_words, lock_word, refl, ◌∙◌, ap}
use Rattle.state.specs.State.{register_words}
use Rattle.state.proofs.Lengths.{slots_length, pending-length}
use Rattle.state.proofs.Parts.{three}
use Rattle.state.proofs.put_device.Goals as goal

pub returns : goal.returns
returns c =
    let x = c.args in let d = x.d in let l = x.out.now in
    three l c.put.new.out c.put_slots.new.out _ (register_words d.registers (lock_word x.handed d.bank.lock d.bank.victim))
    (slot_words d.bank.cam d.bank.ram 0 32) (pending_words d.pending) x.at
    refl (slots_length d.bank.cam d.bank.ram 0 32) (pending-length d.pending) c.requires c.put.auto.out c.put_slots.auto.out
    (c.put.ensures ∙ ap (λ (ws : List ℕ). words_put l x.at ws) (c.register_words.ensures ∙ ap (λ (w : ℕ). register_words d.registers w) c.lock_word-lock.ensures))
    c.put_slots.ensures
    (c.put-2.ensures ∙ ap (λ (ws : List ℕ). words_put c.put_slots.new.out (x.at + 284) ws) c.pending_words.ensures)
