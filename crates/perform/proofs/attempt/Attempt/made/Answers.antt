use Rattle.page.specs.declared.Words.{Words}
use Rattle.perform.specs.Names.{lent_of, walk_within, is_on, is_walking, true, false, Charged, ◌≡◌}
use Rattle.perform.proofs.Names.{rules, wordless_of, walked_of, sym, ◌∙◌, ap}
use Rattle.perform.specs.Attempts.{matched_for}
use Rattle.perform.proofs.Joins.{off-after, match-after, miss-after, walk_after}
use Rattle.perform.proofs.attempt.Attempt.made.Goals as goal

pub returns-then-not-is_on : goal.returns-then-not-is_on
returns-then-not-is_on c =
    λ s. let x = c.args.self in
    let off : is_on c.args.control ≡ false = search rules in
    c.wordless.ensures
    ∙ ap (wordless_of x.bill x.reason x.pending x.va x.access) c.plain.ensures
    ∙ off-after x.prices x.bill x.pending x.va x.access _ _ _ _ x.reason s.ready off

pub returns-in-Some : goal.returns-in-Some
returns-in-Some c =
    λ s. let x = c.args.self in
    let on : is_on c.args.control ≡ true = search rules in
    let some = sym (c.find.ensures.lowest s.spanned s.cams s.virtual) ∙ c.in-Some.is in
    c.wordless-in-Some.ensures
    ∙ ap (wordless_of x.bill x.reason x.pending x.va x.access)
    (c.matched.ensures ∙ ap (λ (y : Words). matched_for x.reason y.cam y.ram x.va x.access) (c.words.ensures (c.find.ensures.slot _ c.in-Some.is)))
    ∙ match-after x.prices x.bill x.pending x.va x.access _ _ _ c.args.slots.now.bank.ram x.reason _ on some

pub returns-then-not-is_walking : goal.returns-then-not-is_walking
returns-then-not-is_walking c =
    λ s. let x = c.args.self in
    let on : is_on c.args.control ≡ true = search rules in
    let none = sym (c.find.ensures.lowest s.spanned s.cams s.virtual) ∙ c.in_default.is in
    let still : is_walking c.args.control ≡ false = search rules in
    c.wordless-then-not-is_walking.ensures
    ∙ ap (wordless_of x.bill x.reason x.pending x.va x.access) c.plain-then-not-is_walking.ensures
    ∙ miss-after x.prices x.bill x.pending x.va x.access _ _ _ _ x.reason s.ready on none still

pub returns : goal.returns
returns c =
    λ s. let x = c.args.self in
    let w = walk_within (lent_of c.args.memories.now) c.args.base.0 x.va.0 in
    let on : is_on c.args.control ≡ true = search rules in
    let none = sym (c.find.ensures.lowest s.spanned s.cams s.virtual) ∙ c.in_default.is in
    let walks : is_walking c.args.control ≡ true = search rules in
    c.walked.ensures
    ∙ ap (λ (y : Charged). walked_of x.bill x.reason x.pending x.va x.access y.words y.from y.bill y.found) c.walk.ensures
    ∙ walk_after x.prices x.bill x.pending x.va x.access w _ _ c.args.slots.now.bank.ram x.reason on none walks
