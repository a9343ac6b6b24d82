-- Three register writes start a fresh device, in any order. Assumes nothing.
use Rattle.coherence.specs.Names.{ℕ, ◌+◌, ◌*◌, ◌/◌, ◌%◌, ◌^◌, ◌<◌, ◌≡◌, true, false, not, ◌∷◌, pick, ◌and◌, fresh_bank, is_on, is_walking, no_entry}
use Rattle.coherence.specs.Names.{Lent, Bill, Prices, Device, fresh_device, in_range, write_of, control_at, base_high_at, base_low_at, write, step}
use Rattle.coherence.proofs.Names.{arith, refl, ◌∙◌, ap, ap₂, replicate, eq-eqb, ◌or◌, pick_yes, and_yes, no_register, listed, command_of}
use Rattle.coherence.proofs.Names.{Setting, Command, Clear, Outcome, done_with, refused_with, is_malformed, is_untimely, write_lacks, write_refusals}
use Rattle.coherence.proofs.Names.{carried, started, clear_goes_on}
use Rattle.lanes.specs.Lanes.{all_from}
use Rattle.bank.specs.Slots.{bank_ok}
use Rattle.registers.specs.Fields.{entry_ok}
use Rattle.registers.specs.Table.{control_command}
use Rattle.registers.proofs.Ranges.{registers_ranged}
use Rattle.coherence.specs.Started.{sets_high, sets_low, sets_control, orders, Leaves, TurnsOn, start_control, StartedInAnyOrder}

-- a started device is in range
fresh_bank_ok : bank_ok fresh_bank ≡ true
unfolding bank_ok all_from ◌and◌
fresh_bank_ok = refl

no_entry_ok : entry_ok no_entry ≡ true
unfolding entry_ok ◌and◌
no_entry_ok = refl

pub started-in_range : (control base : ℕ) → control < 64 → control / 8 % 4 ≡ 0 → base < 2 ^ 32 → base % 128 ≡ 0 → in_range (started control base) ≡ true
unfolding in_range
started-in_range control base c k l e =
    and_yes _ _ (registers_ranged (started control base).registers c k l e (omega arith) no_entry_ok no_entry_ok)
    ∙ and_yes true _ refl
    ∙ fresh_bank_ok

-- the control value has bits 2 and 1, and no bit that control has not
module _ (v : ℕ) where
  pub start-on : is_on (start_control v) ≡ true
  start-on = eq-eqb (start_control v / 2 % 2) 1 (omega arith)

  pub start-walking : is_walking (start_control v) ≡ true
  start-walking = eq-eqb (start_control v / 4 % 2) 1 (omega arith)

  pub start_in-range : (base : ℕ) → base < 2 ^ 32 → base % 128 ≡ 0 → in_range (started (start_control v) base) ≡ true
  start_in-range base l e = started-in_range (start_control v) base (omega arith) (omega arith) l e

-- of the nine refusals only the device's own 8 can come at control and base
module _ (m : Lent) (p : Prices) (b : Bill) (d : Device) (h : in_range d ≡ true) where
  range_clear : Clear {K = ℕ} ((not (in_range d), 8) ∷ replicate 8 (false, 0))
  range_clear = (ap not h, (refl, (refl, (refl, (refl, (refl, (refl, (refl, (refl, tt)))))))))

  goes_on : (o v : ℕ) → Clear (write_refusals m p b d o v) → write_of m p b d o v ≡ carried m p b d (command_of o v)
  unfolding write_of
  goes_on o v c = clear_goes_on (refused_with d b) (carried m p b d (command_of o v)) (write_refusals m p b d o v) c

  high_set : (v : ℕ) → write_of m p b d base_high_at v ≡ carried m p b d (Command.Set (Setting.BaseHigh v))
  unfolding no_register is_malformed is_untimely write_lacks ◌and◌ ◌or◌ command_of listed pick
  high_set v = goes_on base_high_at v range_clear

  low_set : (v : ℕ) → write_of m p b d base_low_at v ≡ carried m p b d (Command.Set (Setting.BaseLow (v / 128 * 128)))
  unfolding no_register is_malformed is_untimely write_lacks ◌and◌ ◌or◌ command_of listed pick
  low_set v = goes_on base_low_at v range_clear

  control-set : (v : ℕ) → write_of m p b d control_at v ≡ carried m p b d (control_command v)
  unfolding no_register is_malformed is_untimely write_lacks ◌and◌ ◌or◌ command_of listed pick
  control-set v = goes_on control_at v range_clear

control-is : (v : ℕ) → TurnsOn v → control_command v ≡ Command.Set (Setting.Control (start_control v))
unfolding control_command
control-is v bits =
    let odd : v % 2 ≡ 1 = omega (arith, bits) in
    pick_yes _ _ _ (eq-eqb _ _ odd) ∙ ap (λ (n : ℕ). Command.Set (Setting.Control (v / 32 % 2 * 32 + n))) bits

-- a fresh device but for its control and base, both in range
record Stands (d : Device) (control base : ℕ) : Type 0 where
  is : d ≡ started control base
  control_low : control < 64
  control_bits : control / 8 % 4 ≡ 0
  base_low : base < 2 ^ 32
  base_bits_lem : base % 128 ≡ 0

fresh_stands : Stands fresh_device 0 0
fresh_stands = record { is = refl; control_low = omega arith; control_bits = refl; base_low = omega arith; base_bits_lem = refl }

module _ (m : Lent) (p : Prices) (b : Bill) (base v : ℕ) (l : base < 2 ^ 32) (e : base % 128 ≡ 0) (bits : TurnsOn v) where
  -- each of the three writes leaves such a device
  module _ {d : Device} {control x : ℕ} (s : Stands d control x) where
    ranged : in_range (started control x) ≡ true
    ranged = started-in_range control x s.control_low s.control_bits s.base_low s.base_bits_lem

    turned : (o w : ℕ) (to : Device) → write_of m p b (started control x) o w ≡ done_with b to → (step m d b (write o w p)).device ≡ to
    turned o w to q = ap (λ (y : Device). (step m y b (write o w p)).device) s.is ∙ ap (λ (y : Outcome). y.device) q

    high : Stands (step m d b (write base_high_at (base / 65536) p)).device control (base / 65536 * 65536 + x % 65536)
    high = record {
      is = turned base_high_at (base / 65536) _ (high_set m p b (started control x) ranged (base / 65536));
      control_low = s.control_low;
      control_bits = s.control_bits;
      base_low = omega (arith, l);
      base_bits_lem = omega (arith, s.base_bits_lem);
    }

    low : Stands (step m d b (write base_low_at (base % 65536) p)).device control (x / 65536 * 65536 + base % 65536 / 128 * 128)
    low = record {
      is = turned base_low_at (base % 65536) _ (low_set m p b (started control x) ranged (base % 65536));
      control_low = s.control_low;
      control_bits = s.control_bits;
      base_low = omega (arith, s.base_low);
      base_bits_lem = omega arith;
    }

    on : Stands (step m d b (write control_at v p)).device (start_control v) x
    on = record {
      is = turned control_at v _ (control-set m p b (started control x) ranged v ∙ ap (carried m p b (started control x)) (control-is v bits));
      control_low = omega arith;
      control_bits = omega arith;
      base_low = s.base_low;
      base_bits_lem = s.base_bits_lem;
    }

    -- and is started where these are the control and the base
    whole : control ≡ start_control v → x ≡ base → d ≡ started (start_control v) base
    whole c q = s.is ∙ ap₂ started c q

  high_first : (base / 65536 * 65536 + 0 % 65536) / 65536 * 65536 + base % 65536 / 128 * 128 ≡ base
  high_first = omega (arith, e)

  low_first : base / 65536 * 65536 + (0 / 65536 * 65536 + base % 65536 / 128 * 128) % 65536 ≡ base
  low_first = omega (arith, e)

  started_each : Leaves m (started (start_control v) base) (orders (sets_high base p b) (sets_low base p b) (sets_control v p b))
  started_each = (
    whole (on (low (high fresh_stands))) refl high_first,
    (
      whole (low (on (high fresh_stands))) refl high_first,
      (
        whole (on (high (low fresh_stands))) refl low_first,
        (
          whole (high (on (low fresh_stands))) refl low_first,
          (
            whole (low (high (on fresh_stands))) refl high_first,
            (whole (high (low (on fresh_stands))) refl low_first, tt),
          ),
        ),
      ),
    ),
  )

pub started_in_any_order : StartedInAnyOrder
started_in_any_order m base v p b l e bits = started_each m p b base v l e bits
