-- What an attempt leaves: by the slot that matches, or by what the walk finds.
-- Internal, for the code: the machine that is signed is unit/specs/Calls.antt and Machine.antt.
use Rattle.std.specs.Prelude.{Result, Ok, Err}
use Rattle.walk.specs.declared.Unfound.{Unfound}
use Rattle.walk.specs.declared.Page.{Page}
use Rattle.std.specs.Prelude.{Option, None, Some}
use Rattle.std.specs.Prelude.{◌<◌, ◌≡◌}
use Rattle.perform.specs.Names.{ℕ, Bool, true, false, List, pick, limit, made_words, Access, PhysicalAddress, VirtualAddress}
use Rattle.perform.specs.Names.{word_count, last_place, Place, no_tally, Prices, attempt_posted, seen_posted, Bill, Seen, cam_limit, cams_ok}
use Rattle.perform.specs.Names.{physical_of, Answer, Fault, Stall, stall, plainly, by_match, by_access, settled, billed, Decision, Reason}
use Rattle.perform.specs.Names.{After, IsSpanned, Slots}
use Rattle.perform.specs.Performed.{tally_for, TriedOn}

abbrev pub fetches_ahead : Reason → Bool
fetches_ahead Reason.Request = false
fetches_ahead Reason.Retry = false
fetches_ahead Reason.Prefetch = true

-- what a matching slot's words come to
abbrev pub matched_for : Reason → ℕ → ℕ → VirtualAddress → Access → Decision
matched_for e cam ram va a = pick (fetches_ahead e) (plainly Answer.Done Seen.Nothing) (by_match cam ram va a)

-- a prefetch is no attempt of the bill's figure, its fault has a kind of its own, and it asks for no access
abbrev pub missed_for : Reason → Bill → Bill
missed_for e b = pick (fetches_ahead e) b (attempt_posted b true)

abbrev pub fault_for : Reason → Fault
fault_for e = pick (fetches_ahead e) Fault.Prefetch Fault.Translation

abbrev pub answer_for : Reason → ℕ → PhysicalAddress → Access → Answer
answer_for e bits at a = pick (fetches_ahead e) Answer.Done (by_access bits at a)

-- all that a decision leaves
abbrev pub after_of : Prices → Bill → Reason → Option Stall → VirtualAddress → Access → Decision → After
after_of p b e q va a d = record {
  fill = d.fill;
  pending = settled va a q d.answer;
  bill = billed p b d;
  tally = tally_for e (word_count d.reads) d.answer;
  answer = d.answer;
  from = last_place d.reads;
}

-- the same of one that reads no word and fills nothing
abbrev pub wordless_of : Bill → Reason → Option Stall → VirtualAddress → Access → Decision → After
wordless_of b e q va a d = record {
  fill = None;
  pending = settled va a q d.answer;
  bill = seen_posted b d.seen;
  tally = tally_for e 0 d.answer;
  answer = d.answer;
  from = Place.Nowhere;
}

-- and of a walk that read n words, the last one at a place, with the bill after them
abbrev pub walked_of : Bill → Reason → Option Stall → VirtualAddress → Access → ℕ → Place → Bill → Result Page Unfound → After
walked_of before e q va a n from b (Err Unfound.Missing) = record {
  fill = None;
  pending = q;
  bill = before;
  tally = no_tally;
  answer = Answer.Refused 3;
  from = Place.Nowhere;
}
walked_of before e q va a n from b (Err Unfound.NoPage) = record {
  fill = None;
  pending = Some (stall (fault_for e) va a);
  bill = missed_for e b;
  tally = tally_for e n (Answer.Fault (fault_for e));
  answer = Answer.Fault (fault_for e);
  from = from;
}
walked_of before e q va a n from b (Ok p) = record {
  fill = Some (made_words p.kind p.frame p.access va);
  pending = settled va a q (answer_for e p.access (physical_of p va) a);
  bill = missed_for e b;
  tally = tally_for e n (answer_for e p.access (physical_of p va) a);
  answer = answer_for e p.access (physical_of p va) a;
  from = from;
}

-- what an attempt asks of the slots, of the control register and of its address
pub record Searchable (s : Slots) (control : ℕ) (e : Reason) (va : VirtualAddress) : Type 0 where
  pub ready : TriedOn e control
  pub cams : cams_ok cam_limit s.bank.cam ≡ true
  pub spanned : IsSpanned s
  pub virtual : va.0 < limit
