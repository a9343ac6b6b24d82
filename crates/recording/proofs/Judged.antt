-- What a block comes to, by its tests in turn. Assumes nothing.
use Rattle.std.proofs.Common.{Ok, Err}
use Rattle.recording.specs.Names.{◌≡◌, List, true, false, not, ℕ, ◌+◌, ◌-◌, ◌*◌, ◌≤◌, ◌<◌, length, take, drop, all_good, crc32, Flaw, Progress}
use Rattle.recording.specs.Blocks.{count_in, number_in, check_in, full_block, most_blocks}
use Rattle.recording.specs.Reading.{progress}
use Rattle.recording.proofs.Names.{sym, ◌∙◌, ap, ap₂, arith, pick_yes, pick_no, eq-eqb, ne_eqb, le-leb, lt-leb, le-ltb, lt-ltb, all_zero, calls_of, unused_of, block_judged, block_taken}

-- the calls' part and the unused one, by the count that was read
pub calls_part : (b : List ℕ) (n : ℕ) → n ≡ count_in b → take (4 + 12 * n - 4) (drop 4 b) ≡ calls_of b
unfolding calls_of
calls_part b n e = ap (λ (k : ℕ). take k (drop 4 b)) (let z : 4 + 12 * n - 4 ≡ 12 * count_in b = omega arith in z)

pub unused_part : (b : List ℕ) (n : ℕ) → n ≡ count_in b → take (508 - (4 + 12 * n)) (drop (4 + 12 * n) b) ≡ unused_of b
unfolding unused_of
unused_part b n e =
    ap₂ (λ (k j : ℕ). take k (drop j b))
    (let z : 508 - (4 + 12 * n) ≡ 504 - 12 * count_in b = omega arith in z) (let z : 4 + 12 * n ≡ 4 + 12 * count_in b = omega arith in z)

module _ (p : Progress) (b : List ℕ) where
  pub judged_check : (check_in b ≡ crc32 (take 508 b) → ⊥) → Err Flaw.Check ≡ block_judged p b
  unfolding block_judged
  judged_check h = sym (pick_yes _ _ _ (ap not (ne_eqb _ _ h)))

  module _ (checked : check_in b ≡ crc32 (take 508 b)) where
    pub judged_number : (number_in b ≡ p.blocks → ⊥) → Err Flaw.Number ≡ block_judged p b
    unfolding block_judged
    judged_number h = sym (pick_no _ _ _ (ap not (eq-eqb _ _ checked)) ∙ pick_yes _ _ _ (ap not (ne_eqb _ _ h)))

    module _ (numbered : number_in b ≡ p.blocks) where
      pub judged_none : count_in b ≡ 0 → Err Flaw.Count ≡ block_judged p b
      unfolding block_judged
      judged_none h = sym (pick_no _ _ _ (ap not (eq-eqb _ _ checked)) ∙ pick_no _ _ _ (ap not (eq-eqb _ _ numbered)) ∙ pick_yes _ _ _ (eq-eqb _ _ h))

      module _ (some : count_in b ≡ 0 → ⊥) where
        pub judged_over : full_block < count_in b → Err Flaw.Count ≡ block_judged p b
        unfolding block_judged
        judged_over h =
            sym (pick_no _ _ _ (ap not (eq-eqb _ _ checked)) ∙ pick_no _ _ _ (ap not (eq-eqb _ _ numbered))
            ∙ pick_no _ _ _ (ne_eqb _ _ some) ∙ pick_yes _ _ _ (lt-ltb _ _ h))

        module _ (few : count_in b ≤ full_block) where
          pub judged_record : all_good (calls_of b) ≡ false → Err Flaw.Record ≡ block_judged p b
          unfolding block_judged
          judged_record h =
              sym (pick_no _ _ _ (ap not (eq-eqb _ _ checked)) ∙ pick_no _ _ _ (ap not (eq-eqb _ _ numbered))
              ∙ pick_no _ _ _ (ne_eqb _ _ some) ∙ pick_no _ _ _ (le-ltb _ _ few) ∙ pick_yes _ _ _ (ap not h))

          module _ (good : all_good (calls_of b) ≡ true) where
            pub judged_unused : all_zero (unused_of b) ≡ false → Err Flaw.Unused ≡ block_judged p b
            unfolding block_judged
            judged_unused h =
                sym (pick_no _ _ _ (ap not (eq-eqb _ _ checked)) ∙ pick_no _ _ _ (ap not (eq-eqb _ _ numbered))
                ∙ pick_no _ _ _ (ne_eqb _ _ some) ∙ pick_no _ _ _ (le-ltb _ _ few) ∙ pick_no _ _ _ (ap not good) ∙ pick_yes _ _ _ (ap not h))

            pub judged_next : all_zero (unused_of b) ≡ true → Ok (progress (p.blocks + 1) (p.calls + count_in b)) ≡ block_judged p b
            unfolding block_judged
            judged_next h =
                sym (pick_no _ _ _ (ap not (eq-eqb _ _ checked)) ∙ pick_no _ _ _ (ap not (eq-eqb _ _ numbered))
                ∙ pick_no _ _ _ (ne_eqb _ _ some) ∙ pick_no _ _ _ (le-ltb _ _ few) ∙ pick_no _ _ _ (ap not good) ∙ pick_no _ _ _ (ap not h))

  -- before that, by what is carried
  pub taken_many : most_blocks ≤ p.blocks → Err Flaw.TooMany ≡ block_taken p b
  unfolding block_taken
  taken_many h = sym (pick_yes _ _ _ (le-leb _ _ h))

  module _ (room : p.blocks < most_blocks) where
    pub taken_short : (length b ≡ 512 → ⊥) → Err Flaw.Short ≡ block_taken p b
    unfolding block_taken
    taken_short h = sym (pick_no _ _ _ (lt-leb _ _ room) ∙ pick_yes _ _ _ (ap not (ne_eqb _ _ h)))

    module _ (long : length b ≡ 512) where
      pub taken-behind : (p.calls ≡ full_block * p.blocks → ⊥) → Err Flaw.BehindLast ≡ block_taken p b
      unfolding block_taken
      taken-behind h = sym (pick_no _ _ _ (lt-leb _ _ room) ∙ pick_no _ _ _ (ap not (eq-eqb _ _ long)) ∙ pick_yes _ _ _ (ap not (ne_eqb _ _ h)))

      pub taken_judged : p.calls ≡ full_block * p.blocks → block_judged p b ≡ block_taken p b
      unfolding block_taken
      taken_judged h = sym (pick_no _ _ _ (lt-leb _ _ room) ∙ pick_no _ _ _ (ap not (eq-eqb _ _ long)) ∙ pick_no _ _ _ (ap not (eq-eqb _ _ h)))
