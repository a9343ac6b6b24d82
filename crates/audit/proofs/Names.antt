-- What the proofs of this crate are written with.
pub use borrow.Author.Rules.{rules}
pub use borrow.Author.Tests.{eq-eqb, eqb-false, eqb-true, le-leb, le-ltb, leb-false, leb-true, lt-leb, lt-ltb, ne_eqb, not-false, not-true}
pub use lib.ListN.{length-append}
pub use mathlib.Core.Bool.{false≢true, true≢false}
pub use mathlib.Core.Path.{◌∙◌, ap, ap₂, refl, subst, sym}
pub use native.Mathlib.Decide.{dec_le}
pub use native.Mathlib.Omega.{arith}
pub use Rattle.page.proofs.Picks.{and_left, and_no, and_right, and_yes, pick_no, pick_yes}
unfoldable pub use Rattle.audit.specs.Check.{check_of, image_ok, level_checked, table_checked, table_in, words_checked}
pub use Rattle.audit.specs.Check.{first_checked}
unfoldable pub use Rattle.audit.specs.Groups.{all_are, broken}
pub use Rattle.audit.specs.Groups.{table_word, taken, taken_at}
unfoldable pub use Rattle.audit.specs.Pages.{level_pages, table_pages}
pub use Rattle.audit.specs.Pages.{first_pages, page_mapping, pages_in, word_pages}
pub use Rattle.audit.specs.Puts.{Fits, FirstListable, FirstSound, GroupListable, LevelListable, Listable, Put, TableListable}
pub use Rattle.audit.specs.Runs.{BrokenOver, Grouped, InRun, PageCount, Scanned, Tallied, Unbroken}
unfoldable pub use Rattle.audit.specs.List.{list_of}
pub use Rattle.audit.specs.List.{inventoried, inventory_left, inventory_of}
