use Rattle.std.proofs.Common.{Err, ◌≡◌}
use Rattle.builder.specs.declared.BuildError.{BuildError}
use Rattle.mkimage.proofs.Names.{outcome, refl, sym, ◌∙◌, ap}
use Rattle.mkimage.proofs.Texts.{shown-nothing, shown-image, shown_refusal}
use Rattle.mkimage.proofs.output.output.Goals as goal

pub returns-then-memory-lt64 : goal.returns-then-memory-lt64
returns-then-memory-lt64 c = shown-nothing _ _ c.if-memory-lt64.true

pub returns-in-Ok : goal.returns-in-Ok
returns-in-Ok c =
    shown-image _ _ c.if-memory-lt64.false _ _ (ap (λ b. outcome b c.build.new.memory) (sym c.in-Ok.is) ∙ c.build.ensures)

pub returns-in-Err-BadMemory : goal.returns-in-Err-BadMemory
returns-in-Err-BadMemory c =
    shown_refusal _ _ c.if-memory-lt64.false (Err BuildError.BadMemory) _ _ (ap (λ b. outcome b c.build.new.memory) (let e : Err BuildError.BadMemory ≡ c.build.result = cc in e) ∙ c.build.ensures) refl c.put_message.ensures

pub returns-in-Err-BadRecord : goal.returns-in-Err-BadRecord
returns-in-Err-BadRecord c =
    shown_refusal _ _ c.if-memory-lt64.false (Err (BuildError.BadRecord c.in-Err-BadRecord.i)) _ _
    (ap (λ b. outcome b c.build.new.memory) (let e : Err (BuildError.BadRecord c.in-Err-BadRecord.i) ≡ c.build.result = cc in e) ∙ c.build.ensures) refl c.put_message-in-Err-BadRecord.ensures

pub returns-in-Err-Overlap : goal.returns-in-Err-Overlap
returns-in-Err-Overlap c =
    shown_refusal _ _ c.if-memory-lt64.false (Err (BuildError.Overlap c.in-Err-Overlap.i)) _ _
    (ap (λ b. outcome b c.build.new.memory) (let e : Err (BuildError.Overlap c.in-Err-Overlap.i) ≡ c.build.result = cc in e) ∙ c.build.ensures) refl c.put_message-in-Err-Overlap.ensures

pub returns-in-Err-TooLong : goal.returns-in-Err-TooLong
returns-in-Err-TooLong c =
    shown_refusal _ _ c.if-memory-lt64.false (Err (BuildError.TooLong c.in-Err-TooLong.c)) _ _
    (ap (λ b. outcome b c.build.new.memory) (let e : Err (BuildError.TooLong c.in-Err-TooLong.c) ≡ c.build.result = cc in e) ∙ c.build.ensures) refl c.put_message-in-Err-TooLong.ensures
