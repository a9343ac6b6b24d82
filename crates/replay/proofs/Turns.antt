-- One turn of a replay: what is left of the calls. Assumes nothing.
use Rattle.std.proofs.Common.{Option}
use Rattle.replay.specs.Names.{◌≡◌, List, [], ◌∷◌, ◌++◌, ℕ, ◌+◌, ◌*◌, length, Lent, Prices, call_count, Call, said_words, stepped, Bench, placed}
use Rattle.replay.proofs.Names.{refl, sym, ◌∙◌, ap, ap₂, arith, ◌-◌, ◌<◌, ◌≤◌, length-append, le-leb, lt-leb, pick_yes, pick_no, call_at, calls_from}
use Rattle.replay.proofs.Names.{bench_behind, answers_of, Replayed, replayed, replay_of}
use Rattle.replay.proofs.Calls.{calls-length}
use Rattle.calls.proofs.Rest.{calls_next, calls-none, calls-all}
use Rattle.memory.specs.declared.Place.{Place}
use Rattle.run.specs.Answers.{cut_place}
use Rattle.run.proofs.Offsets.{stepped-whole}
use Rattle.run.proofs.Sizes.{said-length}
use Rattle.session.specs.declared.Stepped.{Stepped}
use Rattle.wire.specs.Words.{words_put}
use Rattle.wire.proofs.Placing.{placed_then, placed-none, written_fits}

-- how many words the answers are
answers-length : (m : Lent) (p : Prices) (b : Bench) (cs : List (Option Call)) → length (answers_of m p b cs) ≡ 4 * length cs
unfolding answers_of
answers-length m p b [] = refl
answers-length m p b (c ∷ cs) =
    let w = length-append (said_words (stepped m p b c).said (stepped m p b c).from) (answers_of m p (stepped m p b c).bench cs) in
    let u = said-length (stepped m p b c).said (stepped m p b c).from in
    let v = answers-length m p (stepped m p b c).bench cs in
    omega arith

module _ (m : Lent) (p : Prices) (l : List ℕ) (n : ℕ) where
  -- what call i of n and those behind it come to
  abbrev pub left : Bench → List ℕ → ℕ → Replayed
  left b out i = replayed (bench_behind m p b (calls_from l i (n - i))) (placed out (16 * i) (answers_of m p b (calls_from l i (n - i))))

  pub replay_turn : (out o : List ℕ) (b : Bench) (i : ℕ) (s : Stepped) → i < n → 16 * n ≤ length out
      → s ≡ stepped m p b (call_at l (12 * i)) → o ≡ words_put out (16 * i) (said_words s.said (cut_place s.from))
      → left b out i ≡ left s.bench o (i + 1)
  unfolding bench_behind answers_of
  replay_turn out o b i s h fits e q =
      let cs = calls_from l (i + 1) (n - (i + 1)) in
      let rest = answers_of m p s.bench cs in
      let ws = said_words s.said s.from in
      let u = said-length s.said s.from in
      let v = answers-length m p s.bench cs in
      let w = calls-length l (i + 1) (n - (i + 1)) in
      let whole : cut_place s.from ≡ s.from = ap (λ (x : Stepped). cut_place x.from) e ∙ stepped-whole m p b (call_at l (12 * i)) ∙ sym (ap (λ (x : Stepped). x.from) e) in
      let put : o ≡ placed out (16 * i) ws =
      q ∙ ap (λ (f : Place). words_put out (16 * i) (said_words s.said f)) whole ∙ written_fits out (16 * i) ws (omega arith) in
      ap (λ (ds : List (Option Call)). replayed (bench_behind m p b ds) (placed out (16 * i) (answers_of m p b ds))) (calls_next l n i h)
      ∙ ap (λ (x : Stepped). replayed (bench_behind m p x.bench cs) (placed out (16 * i) (said_words x.said x.from ++ answers_of m p x.bench cs))) (sym e)
      ∙ ap (replayed (bench_behind m p s.bench cs)) (sym (placed_then out (16 * i) ws (omega arith) rest (omega arith))
      ∙ ap₂ (λ (x : List ℕ) (j : ℕ). placed x j rest) (sym put) (let d : 16 * i + 4 * length ws ≡ 16 * (i + 1) = omega arith in d))

  module _ (start : Bench) (first : List ℕ) (all : n ≡ call_count l) where
    -- behind the last call nothing is left
    pub replay_end : (b : Bench) (out : List ℕ) (i : ℕ) → 16 * n ≤ length first → n ≤ i → left start first 0 ≡ left b out i → replayed b out ≡ replay_of m p start l first
    unfolding bench_behind answers_of replay_of
    replay_end b out i fits h e =
        sym (ap (λ (ds : List (Option Call)). replayed (bench_behind m p b ds) (placed out (16 * i) (answers_of m p b ds))) (calls-none l n i h) ∙ ap (replayed b) (placed-none out (16 * i)))
        ∙ sym e
        ∙ ap (λ (ds : List (Option Call)). replayed (bench_behind m p start ds) (placed first 0 (answers_of m p start ds))) (calls-all l n (call_count l) all)
        ∙ sym (pick_yes _ _ _ (le-leb (16 * call_count l) (length first) (omega arith)))

    pub replay_none : length first < 16 * n → replayed start first ≡ replay_of m p start l first
    unfolding replay_of
    replay_none h = sym (pick_no _ _ _ (lt-leb (16 * call_count l) (length first) (omega arith)))

-- what holds before each call
pub record Going (m : Lent) (p : Prices) (l : List ℕ) (n : ℕ) (start : Bench) (first out : List ℕ) (b : Bench) (i : ℕ) : Type 0 where
  pub long : length out ≡ length first
  pub same : left m p l n start first 0 ≡ left m p l n b out i
