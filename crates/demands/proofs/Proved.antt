-- The three demands hold. Assumes nothing.
use Rattle.demands.specs.Demands.Names.{limit, ◌≡◌, Bool, true, false, lent_ok, mappings, meaning, is_refusal, Device, Said, step, after, asked, asks}
use Rattle.demands.proofs.Names.{refl, sym, ◌∙◌, ap, subst, Uniform, started, look_in, start_control, start-on, start-walking, range-kept}
use Rattle.demands.proofs.Names.{image_translates, AsList}
use mathlib.Core.Bool.{true≢false}
use Rattle.coherence.specs.Sessions.{CacheNeverShows}
use Rattle.coherence.proofs.Sessions.{cache_never_shows}
use Rattle.conduct.proofs.Refused.{exactly-when, accepted-when, nothing_changes}
use Rattle.conduct.proofs.Filled.{locked-kept, one-slot-filled, no_page_no_fill}
use Rattle.conduct.proofs.Cached.{fault-not_cached}
use Rattle.conduct.proofs.Flushed.{flush_exact}
use Rattle.conduct.proofs.Metered.{metered, billed, posted-meters, bench_stays, good-kept}
use Rattle.conduct.proofs.Placed.{comes_from_last, from-nowhere}
use Rattle.conduct.proofs.Beside.{place_beside}
use Rattle.conduct.proofs.Answered.{one_acknowledgement, off-is-virtual}
use Rattle.conduct.proofs.Answering.{answers-on, prefetch-answered, shift-answered, nothing_said}
use Rattle.conduct.proofs.Held.{fault-held, fault-dropped}
use Rattle.conduct.proofs.Kept.{frames}
use Rattle.conduct.proofs.Written.{read_back, read-shown, reset_fresh, load-copied, load_then_copy}
use Rattle.demands.proofs.Building.{build_refuses, build_leaves}
use Rattle.demands.specs.Demands.{Demand1, Demand2, Demand3}
use Rattle.demands.proofs.Lists.{list-said, as_list, refused-uniform, refused-plain, start_is}

pub demand_1 : Demand1
demand_1 = record {
  when = exactly-when;
  otherwise = accepted-when;
  unchanged = nothing_changes;
  meters = bench_stays;
  in-range = range-kept;
  good-bill = good-kept;
  builds = build_refuses;
}

pub demand_2 : Demand2
demand_2 = record {
  locked = locked-kept;
  filled = one-slot-filled;
  no-page = no_page_no_fill;
  not_cached = fault-not_cached;
  flushed = flush_exact;
  metered = metered;
  billed = billed;
  posted = posted-meters;
  comes_from = comes_from_last;
  from-nowhere = from-nowhere;
  beside = place_beside;
  held = fault-held;
  dropped = fault-dropped;
  on = answers-on;
  off = off-is-virtual;
  acknowledged = one_acknowledgement;
  prefetched = prefetch-answered;
  shifted = shift-answered;
  quiet = nothing_said;
  kept = frames;
  read_back = read_back;
  read-shown = read-shown;
  reset = reset_fresh;
  load-copy = load-copied;
  load_then_copy = load_then_copy;
  built = build_leaves;
}

pub demand_3 : Demand3
demand_3 rs base room len m v p b₀ cs b c va a r bytes acc standing on adm =
    subst (λ (d : Device). asked (after m d cs) c ≡ asks va a → (step m (after m d cs) b c).said ≡ Said.Answered r → is_refusal r ≡ false → AsList r (meaning (mappings rs) va a))
    (sym (start_is rs base room len acc m v p b₀ on))
    (by (lent_ok m) refl)
  where
    never : Uniform limit (look_in m base) → CacheNeverShows m (start_control v) base
    never = cache_never_shows m (start_control v) base (start-on v) (start-walking v)

    by : (t : Bool) → lent_ok m ≡ t → asked (after m (started (start_control v) base) cs) c ≡ asks va a →
        (step m (after m (started (start_control v) base) cs) b c).said ≡ Said.Answered r → is_refusal r ≡ false → AsList r (meaning (mappings rs) va a)
    by true e q s f =
        let t = image_translates rs base room len m bytes acc e standing in
        let n = never t.uniform cs b c va a r adm q s f in
        as_list r _ (n.1 ∙ list-said (look_in m base) (mappings rs) va a (t.gives va n.0))
    by false e q s f =
        let n = never (refused-uniform m base e) cs b c va a r adm q s f in
        absurd (true≢false (sym (ap is_refusal (n.1 ∙ refused-plain m base va a e)) ∙ f))
