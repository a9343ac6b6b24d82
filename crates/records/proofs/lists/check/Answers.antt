use Rattle.std.proofs.Common.{Err}
use Rattle.records.specs.declared.BadList.{BadList}
use Rattle.records.specs.Names.{◌/◌, megabytes, true, not, ℕ, ◌≡◌, ◌≤◌, ◌<◌, ◌*◌, ◌+◌, length, drop}
use Rattle.records.proofs.Names.{refl, sym, ap, ◌∙◌, subst, arith, well_formed, mapping_of, bad, length-take, length-drop, eqb-true}
use Rattle.records.proofs.Notes.{same_at}
use Rattle.records.proofs.Refusals.{whole, short_bad, bad_past, bad-rest, good-rest, Left, left_none, left_bad, left_clash, left_more, left_end}
use Rattle.records.proofs.Taken.{Marks, marks_none, read_below, overlap_says, marks_turn}
use Rattle.records.proofs.Noted.{Notes, notes_none, notes_more, notes_end, bad-not-fine}
use Rattle.records.proofs.Pieces.{turn_exact}
use Rattle.std.specs.Iterator.Adapters.{enumerate_count, enumerate_source}
use Rattle.std.specs.Slice.Iter.{chunks_exact_rest, chunks_exact_size}
use Rattle.records.proofs.lists.check.Goals as goal
use Rattle.records.proofs.lists.check.Goals.{then-i-ge-MOST-via-then-i-ge-MOST, then-i-ge-MOST-via-else-i-ge-MOST+then-not-well_formed}

pub returns-then-is_empty : goal.returns-then-is_empty
returns-then-is_empty c =
    let rs = c.args.records.now in
    let z : length rs ≡ 0 = eqb-true _ _ (sym c.is_empty.ensures ∙ c.if-is_empty.true) in
    let none : length rs ≤ 12 * 0 = omega arith in (
      left_end megabytes rs 0 none (left_none megabytes rs),
      λ _ e. notes_end rs 0 _ (omega arith) none (notes_none rs _ e),
    )

pub loop-i-init : goal.loop-i-init
loop-i-init c =
    let rs = c.args.records.now in
    let same = c.into_iter-i-iterator.ensures.into_iter_gives in
    let from = ap enumerate_source same ∙ c.enumerate-i-items.ensures.source in
    let zero : c.into_iter-i-iterator.result.count ≡ 0 = ap enumerate_count same ∙ c.enumerate-i-items.ensures.count in
    record {
      size = ap chunks_exact_size from ∙ c.chunks_exact.ensures.size;
      rest = ap chunks_exact_rest from ∙ c.chunks_exact.ensures.rest ∙ sym (ap (λ (i : ℕ). drop (12 * i) rs) zero);
      whole = omega (arith, zero);
      left = subst (Left megabytes rs) (sym zero) (left_none _ _);
      words = refl;
      marks = subst (λ (i : ℕ). Marks rs i _) (sym zero) (marks_none _ _ (λ k. same_at 256 k 0));
      notes = λ e. subst (λ (i : ℕ). Notes rs i c.args.seen.now.0) (sym zero) (notes_none rs _ e);
    }

pub returns-then-i-ge-MOST : goal.returns-then-i-ge-MOST
returns-then-i-ge-MOST c =
    let rs = c.args.records.now in
    let p = c.in-Some.ensures.steps in
    let l = c.loop-i in
    let k = l.i-iterator.count in
    let t = turn_exact rs _ c.in-Some.r.now _ k _ l.invariant.size l.invariant.rest p.0.1 in
    let bad : bad megabytes rs k ≡ true = elim c.then-i-ge-MOST.branch [
      | then-i-ge-MOST-via-then-i-ge-MOST w ↦ bad_past megabytes rs k (omega (arith, w.if-i-ge-MOST.true, p.1))
      | then-i-ge-MOST-via-else-i-ge-MOST+then-not-well_formed w ↦
          sym (bad-rest megabytes rs k _ (omega (arith, w.if-i-ge-MOST.false, p.1)) (w.well_formed-else-i-ge-MOST.ensures ∙ ap (well_formed megabytes) t.0)) ∙ ap not w.if-not-well_formed.true
    ] in (
      ap (λ (i : ℕ). Err (BadList.BadRecord i)) p.1 ∙ left_bad megabytes rs k t.2 l.invariant.left bad,
      λ e. absurd (bad-not-fine _ e),
    )

pub mapping_of-m-requires : goal.mapping_of-m-requires
mapping_of-m-requires c =
    let rs = c.args.records.now in
    let p = c.in-Some.ensures.steps in
    let l = c.loop-i in
    let k = l.i-iterator.count in
    let t = turn_exact rs _ c.in-Some.r.now _ k _ l.invariant.size l.invariant.rest p.0.1 in
    let good = good-rest megabytes rs k _ (let z : k < 1024 = omega (arith, c.if-i-ge-MOST.false, p.1) in z) (c.well_formed-else-i-ge-MOST.ensures ∙ ap (well_formed megabytes) t.0) c.if-not-well_formed.false in
    omega (arith, whole megabytes rs k good, ap length t.0, length-take 12 (drop (12 * k) rs), length-drop (12 * k) rs)

pub is_free-requires : goal.is_free-requires
is_free-requires c =
    let rs = c.args.records.now in
    let p = c.in-Some.ensures.steps in
    let l = c.loop-i in
    let k = l.i-iterator.count in
    let t = turn_exact rs _ c.in-Some.r.now _ k _ l.invariant.size l.invariant.rest p.0.1 in
    let good = good-rest megabytes rs k _ (let z : k < 1024 = omega (arith, c.if-i-ge-MOST.false, p.1) in z) (c.well_formed-else-i-ge-MOST.ensures ∙ ap (well_formed megabytes) t.0) c.if-not-well_formed.false in
    let read = c.mapping_of-m.ensures ∙ ap mapping_of t.0 in
    (l.invariant.words, read_below rs k _ good read)

pub returns-then-not-is_free : goal.returns-then-not-is_free
returns-then-not-is_free c =
    let rs = c.args.records.now in
    let p = c.in-Some.ensures.steps in
    let l = c.loop-i in
    let k = l.i-iterator.count in
    let t = turn_exact rs _ c.in-Some.r.now _ k _ l.invariant.size l.invariant.rest p.0.1 in
    let good = good-rest megabytes rs k _ (let z : k < 1024 = omega (arith, c.if-i-ge-MOST.false, p.1) in z) (c.well_formed-else-i-ge-MOST.ensures ∙ ap (well_formed megabytes) t.0) c.if-not-well_formed.false in
    let read = c.mapping_of-m.ensures ∙ ap mapping_of t.0 in
    let free = c.is_free in (
      ap (λ (i : ℕ). Err (BadList.Overlap i)) p.1
          ∙ left_clash megabytes rs k t.2 l.invariant.left good
          (overlap_says rs k _ good read l.taken free.result l.invariant.marks free.ensures ∙ ap not c.if-not-is_free.true),
      λ e. absurd (bad-not-fine _ e),
    )

pub cover-requires : goal.cover-requires
cover-requires c =
    let rs = c.args.records.now in
    let p = c.in-Some.ensures.steps in
    let l = c.loop-i in
    let k = l.i-iterator.count in
    let t = turn_exact rs _ c.in-Some.r.now _ k _ l.invariant.size l.invariant.rest p.0.1 in
    let good = good-rest megabytes rs k _ (let z : k < 1024 = omega (arith, c.if-i-ge-MOST.false, p.1) in z) (c.well_formed-else-i-ge-MOST.ensures ∙ ap (well_formed megabytes) t.0) c.if-not-well_formed.false in
    let read = c.mapping_of-m.ensures ∙ ap mapping_of t.0 in
    (l.invariant.words, read_below rs k _ good read)

pub note-requires : goal.note-requires
note-requires c =
    let rs = c.args.records.now in
    let p = c.in-Some.ensures.steps in
    let l = c.loop-i in
    let k = l.i-iterator.count in
    let t = turn_exact rs _ c.in-Some.r.now _ k _ l.invariant.size l.invariant.rest p.0.1 in
    let good = good-rest megabytes rs k _ (let z : k < 1024 = omega (arith, c.if-i-ge-MOST.false, p.1) in z) (c.well_formed-else-i-ge-MOST.ensures ∙ ap (well_formed megabytes) t.0) c.if-not-well_formed.false in
    let read = c.mapping_of-m.ensures ∙ ap mapping_of t.0 in
    read_below rs k _ good read

pub loop-i-preserved : goal.loop-i-preserved
loop-i-preserved c =
    let rs = c.args.records.now in
    let p = c.in-Some.ensures.steps in
    let l = c.loop-i in
    let k = l.i-iterator.count in
    let t = turn_exact rs _ c.in-Some.r.now _ k _ l.invariant.size l.invariant.rest p.0.1 in
    let good = good-rest megabytes rs k _ (let z : k < 1024 = omega (arith, c.if-i-ge-MOST.false, p.1) in z) (c.well_formed-else-i-ge-MOST.ensures ∙ ap (well_formed megabytes) t.0) c.if-not-well_formed.false in
    let read = c.mapping_of-m.ensures ∙ ap mapping_of t.0 in
    let free = c.is_free in
    let next : c.next.new.self.count ≡ k + 1 = p.2 in
    record {
      size = p.0.0 ∙ l.invariant.size;
      rest = t.1 ∙ sym (ap (λ (i : ℕ). drop (12 * i) rs) next);
      whole = omega (arith, whole megabytes rs k good, next);
      left = subst (Left megabytes rs) (sym next)
          (left_more megabytes rs k t.2 l.invariant.left good
          (overlap_says rs k _ good read l.taken free.result l.invariant.marks free.ensures ∙ ap not c.if-not-is_free.false));
      words = c.cover.auto.c ∙ l.invariant.words;
      marks = subst (λ (i : ℕ). Marks rs i c.cover.new.c) (sym next) (marks_turn rs k _ good read l.taken c.cover.new.c l.invariant.marks c.cover.ensures);
      notes = λ e.
          subst (λ (i : ℕ). Notes rs i c.note.new.self.0) (sym next)
          (notes_more rs k _ l.seen.0 c.note.new.self.0 read (read_below rs k _ good read) c.note.ensures (l.invariant.notes e));
    }

pub returns-then-records-ne0 : goal.returns-then-records-ne0
returns-then-records-ne0 c =
    let rs = c.args.records.now in
    let l = c.loop-i in
    let k = l.i-iterator.count in
    let p = c.in-None.ensures.steps in
    let below : length rs < 12 * k + 12 = omega (arith, p.0.1.0, l.invariant.size, ap length l.invariant.rest, length-drop (12 * k) rs) in (
      ap (λ (i : ℕ). Err (BadList.BadRecord i)) (let z : length rs / 12 ≡ k = omega (arith, l.invariant.whole, below) in z)
          ∙ left_bad megabytes rs k (omega (arith, l.invariant.whole, c.if-records-ne0.true)) l.invariant.left (short_bad megabytes rs k below),
      λ e. absurd (bad-not-fine _ e),
    )

pub returns : goal.returns
returns c =
    let rs = c.args.records.now in
    let l = c.loop-i in
    let k = l.i-iterator.count in
    let p = c.in-None.ensures.steps in
    let below : length rs < 12 * k + 12 = omega (arith, p.0.1.0, l.invariant.size, ap length l.invariant.rest, length-drop (12 * k) rs) in
    let end : length rs ≤ 12 * k = omega (arith, l.invariant.whole, below, c.if-records-ne0.false) in (
      left_end megabytes rs _ end l.invariant.left,
      λ _ e. notes_end rs _ _ l.invariant.whole end (l.invariant.notes e),
    )
