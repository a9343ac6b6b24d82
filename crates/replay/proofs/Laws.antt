-- Replaying a recording block by block is running its calls one after another (02, P1). Assumes nothing.
use Rattle.std.proofs.Common.{Option, Some, None}
use Rattle.replay.specs.Names.{◌≡◌, true, List, [], ◌∷◌, ◌++◌, ℕ, suc, ◌+◌, length, Lent, Prices, calls_in, Call, said_words, stepped, Bench}
use Rattle.replay.specs.Names.{all_good, blocks_in, call_bytes, call_count, calls_at, Progress, session_words}
use Rattle.replay.specs.Blocks.{machine_bench, machine_calls}
use Rattle.replay.specs.Statements.{ReplaysAsRun, RecordedReplays}
use Rattle.replay.proofs.Names.{refl, sym, ◌∙◌, ap, arith, ◌%◌, eq-eqb, and_yes, and_right, good_calls, calls_from}
use Rattle.replay.proofs.Names.{pieces, bench_behind, answers_of, block_bench, block_words}
use Rattle.replay.proofs.Calls.{calls-both}
use mathlib.Core.List.{append_assoc}
use Rattle.page.proofs.Picks.{and_left}
use Rattle.recording.specs.Blocks.{count_in}
use Rattle.recording.specs.Reading.{progress, block_at}
use Rattle.recording.specs.Writing.{blocks_for, recording_of}
use Rattle.recording.proofs.Back.{round_trip}
use Rattle.recording.proofs.Runs.{Runs, runs_of, calls-length, heard_counted}
use Rattle.recording.proofs.Passed.{BlockPasses}
use Rattle.unit.specs.Machine

-- calls behind calls
module _ (m : Lent) (p : Prices) where
  behind-both : (b : Bench) (cs ds : List (Option Call)) → bench_behind m p b (cs ++ ds) ≡ bench_behind m p (bench_behind m p b cs) ds
  unfolding bench_behind
  behind-both b [] ds = refl
  behind-both b (c ∷ cs) ds = behind-both (stepped m p b c).bench cs ds

  session-both : (handed : ℕ) (b : Bench) (cs ds : List (Option Call)) → session_words m p handed b (cs ++ ds) ≡ answers_of m p b cs ++ session_words m p handed (bench_behind m p b cs) ds
  unfolding bench_behind answers_of session_words
  session-both handed b [] ds = refl
  session-both handed b (c ∷ cs) ds =
      let ws = said_words (stepped m p b c).said (stepped m p b c).from in
      let s = (stepped m p b c).bench in
      ap (λ (l : List ℕ). ws ++ l) (session-both handed s cs ds) ∙ sym (append_assoc ws (answers_of m p s cs) (session_words m p handed (bench_behind m p s cs) ds))

  -- each is the machine's
  pub behind-machine : (b : Bench) (cs : List (Option Call)) → machine_bench (bench_behind m p b cs) ≡ Machine.run m (machine_bench b) (machine_calls p cs)
  unfolding bench_behind
  behind-machine b [] = refl
  behind-machine b (Some (Call.Write o v) ∷ cs) = behind-machine (stepped m p b (Some (Call.Write o v))).bench cs
  behind-machine b (Some (Call.Read o) ∷ cs) = behind-machine (stepped m p b (Some (Call.Read o))).bench cs
  behind-machine b (Some (Call.Request va a) ∷ cs) = behind-machine (stepped m p b (Some (Call.Request va a))).bench cs
  behind-machine b (Some Call.Drop ∷ cs) = behind-machine (stepped m p b (Some Call.Drop)).bench cs
  behind-machine b (Some (Call.Shift va) ∷ cs) = behind-machine (stepped m p b (Some (Call.Shift va))).bench cs
  behind-machine b (None ∷ cs) = behind-machine b cs

good-both : (cs ds : List (Option Call)) → good_calls cs ≡ true → good_calls ds ≡ true → good_calls (cs ++ ds) ≡ true
good-both [] ds g h = h
good-both (c ∷ cs) ds g h = and_yes _ _ (and_left _ _ g) ∙ good-both cs ds (and_right _ _ g) h

-- the calls of a block that passes, and of those behind it
module _ (r : List ℕ) where
  calls-more : (s : Progress) (k : ℕ) → BlockPasses s (block_at r s.blocks)
      → calls_in (pieces (calls_at r) s.blocks (suc k)) ≡ calls_in (calls_at r s.blocks) ++ calls_in (pieces (calls_at r) (s.blocks + 1) k)
  unfolding pieces
  calls-more s k h =
      calls-both (calls_at r s.blocks) (pieces (calls_at r) (s.blocks + 1) k) (count_in (block_at r s.blocks)) (calls-length s (block_at r s.blocks) h)

  blocks_good : {s q : Progress} {k : ℕ} → Runs r s k q → good_calls (calls_in (pieces (calls_at r) s.blocks k)) ≡ true
  unfolding pieces calls_from all_good
  blocks_good Runs.done = refl
  blocks_good (Runs.more {p = s} {k = k} h t) =
      ap good_calls (calls-more s k h)
      ∙ good-both (calls_in (calls_at r s.blocks)) (calls_in (pieces (calls_at r) (s.blocks + 1) k)) (and_right _ _ h.good) (blocks_good t)

  module _ (m : Lent) (p : Prices) where
    blocks_words : (handed : ℕ) (b : Bench) {s q : Progress} {k : ℕ} → Runs r s k q
        → block_words m p handed r b s.blocks k ≡ session_words m p handed b (calls_in (pieces (calls_at r) s.blocks k))
    unfolding block_words pieces session_words calls_from
    blocks_words handed b Runs.done = refl
    blocks_words handed b (Runs.more {p = s} {k = k} h t) =
        let cs = calls_in (calls_at r s.blocks) in
        ap (λ (l : List ℕ). answers_of m p b cs ++ l) (blocks_words handed (bench_behind m p b cs) t)
        ∙ sym (session-both m p handed b cs (calls_in (pieces (calls_at r) (s.blocks + 1) k)))
        ∙ ap (session_words m p handed b) (sym (calls-more s k h))

    blocks_bench : (b : Bench) {s q : Progress} {k : ℕ} → Runs r s k q → block_bench m p r b s.blocks k ≡ bench_behind m p b (calls_in (pieces (calls_at r) s.blocks k))
    unfolding block_bench pieces bench_behind calls_from
    blocks_bench b Runs.done = refl
    blocks_bench b (Runs.more {p = s} {k = k} h t) =
        let cs = calls_in (calls_at r s.blocks) in
        blocks_bench (bench_behind m p b cs) t
        ∙ sym (behind-both m p b cs (calls_in (pieces (calls_at r) (s.blocks + 1) k)))
        ∙ ap (bench_behind m p b) (sym (calls-more s k h))

pub replays_as_run : ReplaysAsRun
unfolding all_good
replays_as_run r q h m p handed b =
    let t = runs_of r (progress 0 0) (blocks_in r) q h in
    record {
      good = and_yes _ _ (eq-eqb (length (call_bytes r) % 12) 0 (omega (arith, (heard_counted r q h).calls))) ∙ blocks_good r t;
      words = blocks_words r m p handed b t;
      bench = blocks_bench r m p b t;
      machine = behind-machine m p b (calls_in (call_bytes r));
    }

pub recorded_replays : RecordedReplays
recorded_replays l bytes e m p handed b =
    let back = round_trip l bytes e in
    let t = heard_counted (recording_of l) (progress (blocks_for l) (call_count l)) back.whole in
    ap (block_words m p handed (recording_of l) b 0) t.blocks
    ∙ (replays_as_run (recording_of l) (progress (blocks_for l) (call_count l)) back.whole m p handed b).words
    ∙ ap (λ (s : List ℕ). session_words m p handed b (calls_in s)) back.calls
