-- The choice by a test, and a test that is both or either of two: with these every definition picks.
use Rattle.std.specs.Prelude.{Bool, true, false}

infixr 35 ◌and◌
infixr 30 ◌or◌
unfoldable pub pick : {A : Type 0} → Bool → A → A → A
pick true a b = a
pick false a b = b

unfoldable pub ◌and◌ : Bool → Bool → Bool
true and x = x
false and x = false

unfoldable pub ◌or◌ : Bool → Bool → Bool
true or x = true
false or x = x
