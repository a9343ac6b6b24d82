-- What a request or a retry comes to, by the state and the memories alone: answer, slot to fill, words read, match
-- or not (01, "The unit", "The walk").
use Rattle.std.specs.Prelude.{Result, Ok, Err, Option, Some, None}
use Rattle.walk.specs.declared.Unfound.{Unfound}
use Rattle.decision.specs.Names.{ℕ, Bool, true, false, List, get_or, pick, physical, permits, word_access, word_address, made_words, physical_of}
use Rattle.decision.specs.Names.{no_tally, reads_posted, seen_posted, looked_up, is_on, is_walking, Access, VirtualAddress, PhysicalAddress}
use Rattle.decision.specs.Names.{Reads, Page, Walked, Tally, Bill, Prices, Seen, Fault, Stall, stall, Answer, Decision}

-- a page's byte, or a permission fault
unfoldable pub by_access : ℕ → PhysicalAddress → Access → Answer
by_access bits at a = pick (permits bits a) (Answer.Address at) (Answer.Fault Fault.Permission)

-- a decision that reads no word and fills nothing
abbrev pub plainly : Answer → Seen → Decision
plainly r s = record { answer = r; fill = None; reads = Reads.Nothing; seen = s }

-- a slot that matches: its address, then access
abbrev pub by_match : ℕ → ℕ → VirtualAddress → Access → Decision
by_match cam ram va a = plainly (by_access (word_access ram) (word_address cam ram va) a) Seen.Match

-- a word that the walk needs is in neither memory
abbrev pub missing_word : Decision
missing_word = plainly (Answer.Refused 3) Seen.Nothing

-- a walk that finds no page fills nothing
abbrev pub no_page : Reads → Fault → Seen → Decision
no_page r k s = record { answer = Answer.Fault k; fill = None; reads = r; seen = s }

-- a walk that finds a page fills a slot
abbrev pub with_page : Page → VirtualAddress → Reads → Answer → Seen → Decision
with_page p va r x s = record { answer = x; fill = Some (made_words p.kind p.frame p.access va); reads = r; seen = s }

-- and then access is checked
unfoldable pub by_found : VirtualAddress → Access → Reads → Result Page Unfound → Decision
by_found va a r (Err Unfound.Missing) = missing_word
by_found va a r (Err Unfound.NoPage) = no_page r Fault.Translation Seen.NoMatch
by_found va a r (Ok p) = with_page p va r (by_access p.access (physical_of p va) a) Seen.NoMatch

abbrev pub by_walk : VirtualAddress → Access → Walked → Decision
by_walk va a w = by_found va a w.reads w.found

-- on a match the slot's words; on none a walk where walking is set, else a TLB miss
abbrev pub by_matched : Walked → ℕ → List ℕ → List ℕ → VirtualAddress → Access → Option ℕ → Decision
by_matched w control cam ram va a (Some i) = by_match (get_or cam i 0) (get_or ram i 0) va a
by_matched w control cam ram va a None = pick (is_walking control) (by_walk va a w) (plainly (Answer.Fault Fault.Miss) Seen.NoMatch)

-- what an attempt comes to, where w is what the plain walk of its address gives; off, physical is virtual with no check
unfoldable pub decided : Walked → ℕ → List ℕ → List ℕ → VirtualAddress → Access → Decision
decided w control cam ram va a =
    pick (is_on control) (by_matched w control cam ram va a (looked_up cam va)) (plainly (Answer.Address (physical va.0)) Seen.Nothing)

-- an address clears the pending fault, a fault is pending anew, nothing else changes it
abbrev pub settled : VirtualAddress → Access → Option Stall → Answer → Option Stall
settled va a p (Answer.Address x) = None
settled va a p (Answer.Fault k) = Some (stall k va a)
settled va a p (Answer.Value x) = p
settled va a p Answer.Done = p
settled va a p (Answer.Refused k) = p

-- a retry is metered as a retry, a request as a fresh one
abbrev pub metered_once : Bool → ℕ → Tally
metered_once true n = record { fresh = 0; retries = 1; words = n }
metered_once false n = record { fresh = 1; retries = 0; words = n }

-- what an attempt adds to the meters: one where it got an address or a fault
abbrev pub tally_of : Bool → ℕ → Answer → Tally
tally_of again n (Answer.Address x) = metered_once again n
tally_of again n (Answer.Fault k) = metered_once again n
tally_of again n (Answer.Value x) = no_tally
tally_of again n Answer.Done = no_tally
tally_of again n (Answer.Refused k) = no_tally

-- the words in order, then the smoothing
abbrev pub billed : Prices → Bill → Decision → Bill
billed p b x = seen_posted (reads_posted p b x.reads) x.seen
