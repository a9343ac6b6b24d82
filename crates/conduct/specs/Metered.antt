-- Demand 2, the meters and the bill after each call (01, "Meters and the walk bill").
use Rattle.std.specs.Prelude.{◌+◌, ◌≡◌, ◌∷◌}
use Rattle.conduct.specs.Names.{ℕ, true, false, List, [], pick, word_count, no_tally, posted, BelowStop, reads_posted, seen_posted}
use Rattle.conduct.specs.Names.{looked_up, is_on, no_match, Call, request, write, read, drop-fault, shift, step, Bench, run, VirtualAddress, Lent}
use Rattle.conduct.specs.Names.{Tally, Bill, Prices, Seen, Device}
use Rattle.conduct.specs.Refused.{Accepted}
use Rattle.conduct.specs.Attempted.{Attempted, nothing, attempt, prefetch, attempted, reads_for}

-- a fresh request and the words that it read, a retry and its words, words alone
abbrev pub one_fresh : ℕ → Tally
one_fresh n = record { fresh = 1; retries = 0; words = n }

abbrev pub one_retry : ℕ → Tally
one_retry n = record { fresh = 0; retries = 1; words = n }

abbrev pub words_only : ℕ → Tally
words_only n = record { fresh = 0; retries = 0; words = n }

-- what is added to the meters: the words are those that the plain walk reads
abbrev pub tally_attempted : Lent → Device → Attempted → Tally
tally_attempted m d nothing = no_tally
tally_attempted m d (attempt false va a) = one_fresh (word_count (reads_for m d va))
tally_attempted m d (attempt true va a) = one_retry (word_count (reads_for m d va))
tally_attempted m d (prefetch va) = words_only (word_count (reads_for m d va))

-- a call that is not refused adds exactly that
abbrev pub Metered : Type 0
Metered = (m : Lent) (d : Device) (b : Bill) (c : Call) → Accepted m d b c → (step m d b c).tally ≡ tally_attempted m d (attempted d c)

-- an attempt is smoothed while the unit is on, by whether a slot matches
unfoldable pub seen_for : Device → VirtualAddress → Seen
seen_for d va = pick (is_on d.registers.control) (pick (no_match (looked_up d.bank.cam va)) Seen.NoMatch Seen.Match) Seen.Nothing

-- what is billed: each word that the plain walk reads, in order, then the smoothing; a prefetch is not smoothed
abbrev pub bill_asked : Lent → Device → Prices → Bill → Attempted → Bill
bill_asked m d p b nothing = b
bill_asked m d p b (attempt again va a) = seen_posted (reads_posted p b (reads_for m d va)) (seen_for d va)
bill_asked m d p b (prefetch va) = reads_posted p b (reads_for m d va)

-- the bill after a call, at the prices given with it
abbrev pub bill_of : Lent → Device → Bill → Call → Bill
bill_of m d b (request va a p) = bill_asked m d p b (attempted d (request va a p))
bill_of m d b (write o v p) = bill_asked m d p b (attempted d (write o v p))
bill_of m d b (read o) = b
bill_of m d b drop-fault = b
bill_of m d b (shift va) = b

-- a call that is not refused bills exactly that
abbrev pub WordsBilled : Type 0
WordsBilled = (m : Lent) (d : Device) (b : Bill) (c : Call) → Accepted m d b c → (step m d b c).bill ≡ bill_of m d b c

-- what the calls of a run add, together
abbrev pub added : Tally → Tally → Tally
added s t = record { fresh = s.fresh + t.fresh; retries = s.retries + t.retries; words = s.words + t.words }

abbrev pub tallied : Lent → Device → Bill → List Call → Tally
tallied m d b [] = no_tally
tallied m d b (c ∷ cs) = added (step m d b c).tally (tallied m (step m d b c).device (step m d b c).bill cs)

-- the meters after any calls are the meters before and what the calls add, each meter stopping
abbrev pub PostedMeters : Type 0
PostedMeters =
    (m : Lent) (s : Bench) (cs : List Call) → BelowStop s.meters → (run m s cs).meters ≡ posted s.meters (tallied m s.device s.bill cs)
