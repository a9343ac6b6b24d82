-- What holds of images that were not built here. Assumes nothing.
use Rattle.memory.specs.declared.Place.{Place}
use Rattle.walk.specs.declared.Unfound.{Unfound}
use Rattle.std.proofs.Common.{Result, Ok, Err}
use Rattle.records.specs.declared.Denial.{Denial}
use Rattle.page.specs.declared.PhysicalAddress.{PhysicalAddress}
use Rattle.std.proofs.Common.{Option, Some, None}
use Rattle.demands.specs.Demands.Names.{◌≡◌, Bool, true, false, List, [], ◌∷◌, ◌++◌, ℕ, zero, suc, ◌%◌, ◌<◌, length, limit, megabytes, Lent, LentAt, lent_alone, lent_ok}
use Rattle.demands.specs.Demands.Names.{mappings, meaning, image_length, image, room_ok, answer_of, build_of, is_refusal, Access, VirtualAddress, Device, Said, step}
use Rattle.demands.specs.Demands.Names.{after, asked, asks, Bill, Prices, TurnsOn, start, Bytes, check_of, pages_in, records_of, plain}
use Rattle.demands.proofs.Names.{refl, sym, ◌∙◌, ap, subst, arith, byte_of, holder, accepted, Uniform, started, look_in, start_control, start-on, start-walking}
use Rattle.demands.proofs.Names.{started_in_any_order, image_translates, meant_as, AsList}
use Prim.Native.Nat.{◌+◌, ◌-◌, ◌*◌, ◌≤◌, ◌^◌}
use mathlib.Core.Bool.{true≢false}
use lib.ListN.{take, drop}
use borrow.Author.Tests.{eq-eqb}
use Rattle.page.specs.Words.{virtual, low_bits, type_of}
use Rattle.page.proofs.Slot.{type_of-lt}
use Rattle.page.proofs.Lower.{upper-le}
use Rattle.page.proofs.Picks.{and_right, and_yes, pick_by}
use Rattle.memory.specs.Memory.{memory_ok}
use Rattle.wire.specs.Words.{word_at, word_bytes}
use Rattle.records.specs.declared.Mapping.{Mapping}
use Rattle.records.specs.Mappings.{record_of}
use Rattle.records.proofs.Alls.{All, all_append}
use Rattle.records.proofs.Records.{Recordable, records_say}
use Rattle.tables.specs.Tables.{table_end, table_of, table_size, table_start}
use Rattle.tables.specs.Words.{first_word}
use Rattle.tables.proofs.Places.{image-first, end_next, end_last}
use Rattle.walk.specs.declared.First.{First}
use Rattle.walk.specs.declared.Page.{Page}
use Rattle.walk.specs.declared.Table.{Table}
use Rattle.walk.specs.Descriptors.{first_of, second_of}
use Rattle.walk.specs.Walk.{read_in}
use Rattle.memory.specs.Memory.{place_in}
use Rattle.coherence.specs.Sessions.{CacheNeverShows}
use Rattle.coherence.proofs.Sessions.{cache_never_shows}
use Rattle.translates.specs.Statements.{Gives}
use Rattle.translates.proofs.Over.{first_read, first-is, says_fine, says_coarse}
use Rattle.translates.proofs.Repeats.{image_repeated, no_table}
use Rattle.translates.proofs.Theorems.{ImageRead, image-read}
use Rattle.wire.proofs.Reading.{bytes-append, bytes_drop, bytes_take, word_bytes_lem, word_lt}
use Rattle.audit.specs.Check.{image_ok}
use Rattle.audit.specs.Statements.{found_by, NamedInside, Consistent}
use Rattle.audit.specs.Pages.{page_mapping, word_pages, table_pages, first_pages, level_pages}
use Rattle.audit.specs.Groups.{table_word}
use Rattle.audit.proofs.Accepts.{Audited, accepted_audited}
use Rattle.audit.proofs.Inside
use Rattle.audit.proofs.Inside.{image-base, image-ends}
use Rattle.walk.specs.Repeated.{index_limit, word_bits}
use Rattle.walk.proofs.Laws.{second_by}
use Rattle.audit.proofs.Reading.{lent-read, lent_alone_lem, alone_at, accepted-exactly}
use Rattle.audit.proofs.Meaning.{pages_mean}
use Rattle.demands.specs.Foreign.{image_answer, ForeignCalled, PagesAnswer, BuiltAccepted, RebuiltAlike, Foreign}
use Rattle.demands.proofs.Auditing.{audit_refuses}
use Rattle.demands.proofs.Lists.{list-said, as_list, refused-uniform, refused-plain}
use Rattle.demands.proofs.Buyer.{answer-is, stands, is-lent, built-length, built-lent}

-- a listed page gives its byte and access
page-gives : (h : Option Mapping) (va : VirtualAddress) → Gives h va (found_by h)
unfolding byte_of
page-gives (Some m) va = (refl, refl)
page-gives None va = tt

-- an accepted image, wherever it is lent
module _ (l : List ℕ) (base k : ℕ) (e : check_of megabytes l base ≡ Ok k) where
  said_at : (m : Lent) → lent_ok m ≡ true → LentAt l base m → (va : VirtualAddress) (a : Access) → va.0 < limit
      → plain (look_in m base) va a ≡ meant_as (meaning (pages_in megabytes l base) va a)
  said_at m ok at va a low =
      list-said (look_in m base) (pages_in megabytes l base) va a
      (subst (Gives (holder (pages_in megabytes l base) va) va) (sym ((pages_mean l base k m e ok at).finds va low)) (page-gives (holder (pages_in megabytes l base) va) va))

  audited : Audited megabytes l base
  audited = (accepted_audited megabytes l base k e).0

  alone : (va : VirtualAddress) (a : Access) → va.0 < limit → image_answer l base va a ≡ meant_as (meaning (pages_in megabytes l base) va a)
  alone va a low = said_at (lent_alone l base) (lent_alone_lem l base audited.memory) (alone_at l base) va a low

  start_here : (m : Lent) (v : ℕ) (p : Prices) (b : Bill) → TurnsOn v → start m base v p b ≡ started (start_control v) base
  start_here m v p b h =
      (started_in_any_order m base v p b (omega (arith, image-ends base (length l) audited.memory, audited.first)) (image-base base (length l) audited.memory) h).0

pub pages-answer : PagesAnswer
pages-answer l base k va a e low = alone l base k e va a low

pub foreign-called : ForeignCalled
foreign-called l base k m v p b₀ cs b c va a r acc at on adm =
    subst
    (λ (d : Device). asked (after m d cs) c ≡ asks va a → (step m (after m d cs) b c).said ≡ Said.Answered r → is_refusal r ≡ false
    → (r ≡ image_answer l base va a) × AsList r (meaning (pages_in megabytes l base) va a))
    (sym (start_here l base k acc m v p b₀ on))
    (by (lent_ok m) refl)
  where
    never : Uniform limit (look_in m base) → CacheNeverShows m (start_control v) base
    never = cache_never_shows m (start_control v) base (start-on v) (start-walking v)

    by : (t : Bool) → lent_ok m ≡ t → asked (after m (started (start_control v) base) cs) c ≡ asks va a →
        (step m (after m (started (start_control v) base) cs) b c).said ≡ Said.Answered r → is_refusal r ≡ false → (r ≡ image_answer l base va a) × AsList r
        (meaning (pages_in megabytes l base) va a)
    by true ok q s f =
        let n = never (pages_mean l base k m acc ok at).uniform cs b c va a r adm q s f in
        let z : r ≡ meant_as (meaning (pages_in megabytes l base) va a) = n.1 ∙ said_at l base k acc m ok at va a n.0 in
        (z ∙ sym (alone l base k acc va a n.0), as_list r _ z)
    by false ok q s f =
        let n = never (refused-uniform m base ok) cs b c va a r adm q s f in
        absurd (true≢false (sym (ap is_refusal (n.1 ∙ refused-plain m base va a ok)) ∙ f))

-- the words of a built image, read back
module _ (rs : List ℕ) (base len : ℕ) (before : List ℕ) (bytes : Bytes rs) (e : answer_of rs base (length before) ≡ Ok len) where
  abbrev built : List ℕ
  built = (build_of rs base before).memory

  abbrev lone : Lent
  lone = lent_alone (build_of rs base before).memory base

  lent_ok_lem : lent_ok lone ≡ true
  lent_ok_lem = built-lent rs base len before e

  read : ImageRead rs base lone
  read = image-read rs base (length before) len lone bytes e lent_ok_lem (stands rs base len before lone (is-lent rs base before) e)

  long : image_length megabytes (mappings rs) ≤ length built
  long = omega (arith, (accepted rs base (length before) len e).fits, built-length rs base len before e)

  abbrev word_in : Option (ℕ × Place) → ℕ
  word_in (Some (w, p)) = w
  word_in None = 0

  first_word_lem : (i : ℕ) → i < megabytes → word_at built (4 * i) ≡ first_word megabytes (mappings rs) base i
  first_word_lem i h =
      ap word_in
      (sym (lent-read lone built base (4 * i) lent_ok_lem (alone_at built base) (omega (arith, long, image-first megabytes (mappings rs))))
      ∙ first_read megabytes (mappings rs) base (read_in lone) (place_in lone) read.words i h)

  named : (i : ℕ) → i < megabytes → (t : Option Table) → table_of (mappings rs) i ≡ t → NamedInside base (length built) (first_of (first_word megabytes (mappings rs) base i))
  named i h t f =
      let n = end_next megabytes (mappings rs) i in
      let z = end_last megabytes (mappings rs) (suc i) (omega arith) in
      by t f n z
    where
      by : (t : Option Table) → table_of (mappings rs) i ≡ t → ◌≡◌ {A = ℕ} (table_end megabytes (mappings rs) (suc i)) (table_start megabytes (mappings rs) i + table_size (table_of (mappings rs) i))
          → table_end megabytes (mappings rs) (suc i) ≤ image_length megabytes (mappings rs) → NamedInside base (length built) (first_of (first_word megabytes (mappings rs) base i))
      by (Some Table.Fine) f n z =
          subst (NamedInside base (length built)) (sym (says_fine megabytes (mappings rs) base i read.unit f)) (omega arith, omega (arith, n, z, long, ap table_size f))
      by (Some Table.Coarse) f n z =
          subst (NamedInside base (length built)) (sym (says_coarse megabytes (mappings rs) base i read.unit f)) (omega arith, omega (arith, n, z, long, ap table_size f))
      by None f n z =
          subst (λ (w : ℕ). NamedInside base (length built) (first_of w)) (sym (first-is megabytes (mappings rs) base i None f))
          (no_table (NamedInside base (length built)) tt (λ _. tt) (holder (mappings rs) (virtual (i * 2 ^ 20))))

  image_ok_lem : image_ok base (length built) ≡ true
  unfolding image_ok room_ok
  image_ok_lem =
      let a = accepted rs base (length before) len e in
      and_yes _ _ (eq-eqb _ _ (let z : base % 128 ≡ 0 = omega (arith, read.unit) in z))
      ∙ ap (memory_ok base) (built-length rs base len before e)
      ∙ and_right _ _ a.memory

  consistent : Consistent megabytes built base
  consistent = record {
    memory = image_ok_lem;
    first = omega (arith, long, image-first megabytes (mappings rs));
    tables = λ i h. subst (λ (w : ℕ). NamedInside base (length built) (first_of w)) (sym (first_word_lem i h)) (named i h (table_of (mappings rs) i) refl);
    groups = image_repeated megabytes (mappings rs) base (read_in lone) (place_in lone) read.words read.apart read.unit;
  }

  good : check_of megabytes built base ≡ Ok (length (pages_in megabytes built base))
  good = (accepted-exactly megabytes built base).1 consistent

  -- what the list says of it
  list_here : (va : VirtualAddress) (a : Access) → va.0 < limit → plain (look_in lone base) va a ≡ meant_as (meaning (mappings rs) va a)
  list_here va a low =
      list-said (look_in lone base) (mappings rs) va a
      ((image_translates rs base (length before) len lone bytes e lent_ok_lem (stands rs base len before lone (is-lent rs base before) e)).gives va low)

-- two meanings that are answered alike are the same
meant_once : (x y : Result PhysicalAddress Denial) → meant_as x ≡ meant_as y → x ≡ y
meant_once (Ok p) (Ok q) e = cc
meant_once (Ok p) (Err Denial.Permission) e = let z : ◌≡◌ {A = ℕ} 0 1 = cc in absurd (omega arith)
meant_once (Ok p) (Err Denial.Translation) e = let z : ◌≡◌ {A = ℕ} 0 1 = cc in absurd (omega arith)
meant_once (Err Denial.Permission) (Ok q) e = let z : ◌≡◌ {A = ℕ} 0 1 = cc in absurd (omega arith)
meant_once (Err Denial.Permission) (Err Denial.Permission) e = refl
meant_once (Err Denial.Permission) (Err Denial.Translation) e = let z : ◌≡◌ {A = ℕ} 0 1 = cc in absurd (omega arith)
meant_once (Err Denial.Translation) (Ok q) e = let z : ◌≡◌ {A = ℕ} 0 1 = cc in absurd (omega arith)
meant_once (Err Denial.Translation) (Err Denial.Permission) e = let z : ◌≡◌ {A = ℕ} 0 1 = cc in absurd (omega arith)
meant_once (Err Denial.Translation) (Err Denial.Translation) e = refl

pub built-accepted : BuiltAccepted
built-accepted rs base len before bytes e =
    let h = answer-is rs base len before e in (
      good rs base len before bytes h,
      (λ va a low.
          meant_once _ _ (sym (alone (build_of rs base before).memory base _ (good rs base len before bytes h) va a low) ∙ list_here rs base len before bytes h va a low)),
    )

-- the records of mappings are bytes
type_bytes : (k a : ℕ) → k < 4 → Bytes (k ∷ a % 256 ∷ 0 ∷ 0 ∷ [])
type_bytes k a h zero = omega arith
type_bytes k a h (suc zero) = omega arith
type_bytes k a h (suc (suc zero)) = omega arith
type_bytes k a h (suc (suc (suc zero))) = omega arith
type_bytes k a h (suc (suc (suc (suc i)))) = omega arith

record_bytes : (m : Mapping) → Bytes (record_of m)
unfolding record_of
record_bytes m =
    let last : List ℕ = type_of m.kind ∷ m.access % 256 ∷ 0 ∷ 0 ∷ [] in
    bytes-append (word_bytes m.at.0) (word_bytes m.to.0 ++ last) (word_bytes_lem m.at.0)
    (bytes-append (word_bytes m.to.0) last (word_bytes_lem m.to.0) (type_bytes (type_of m.kind) m.access (type_of-lt m.kind)))

records-bytes : (ms : List Mapping) → Bytes (records_of ms)
unfolding records_of
records-bytes [] = λ i. omega arith
records-bytes (m ∷ ms) = bytes-append (record_of m) (records_of ms) (record_bytes m) (records-bytes ms)

-- the pages of a memory of bytes have room in records
abbrev PageFits : Page → Type 0
PageFits p = (p.frame.0 < 2 ^ 32) × (p.access < 4)

abbrev FoundFits : Result Page Unfound → Type 0
FoundFits (Ok p) = PageFits p
FoundFits (Err Unfound.NoPage) = Unit
FoundFits (Err Unfound.Missing) = Unit

abbrev FirstFits : First → Type 0
FirstFits First.Fault = Unit
FirstFits (First.Whole p) = PageFits p
FirstFits (First.Coarse at) = Unit
FirstFits (First.Fine at) = Unit

second_fits : (t : Table) (w : ℕ) → w < 2 ^ 32 → FoundFits (second_of t w)
second_fits t w h = second_by FoundFits w tt t (λ k _ _. (omega (arith, upper-le (low_bits k) w), omega arith))

first_fits : (w : ℕ) → w < 2 ^ 32 → FirstFits (first_of w)
unfolding first_of
first_fits w h =
    pick_by FirstFits _ _ _ (λ _. tt)
    (λ _. pick_by FirstFits _ _ _ (λ _. tt)
    (λ _. pick_by FirstFits _ _ _ (λ _. (omega (arith, upper-le 20 w), omega arith)) (λ _. tt)))

mapping_fits : (at : ℕ) (p : Page) → at < 2 ^ 32 → PageFits p → Recordable (page_mapping at p)
mapping_fits at p h f = record { virtual = h; physical = f.0; access = omega (arith, f.1) }

module _ (l : List ℕ) (bytes : Bytes l) where
  word_low : (o : ℕ) → word_at l o < 2 ^ 32
  word_low o = word_lt (take 4 (drop o l)) (bytes_take 4 (drop o l) (bytes_drop o l bytes))

  word_recordable : (t : Table) (i j : ℕ) (f : Result Page Unfound) → i < megabytes → j < index_limit t → FoundFits f → All Recordable (word_pages t i j f)
  word_recordable t i j (Ok p) hi hj g =
      pick_by (All Recordable) _ (page_mapping (i * 2 ^ 20 + j * 2 ^ word_bits t) p ∷ []) [] (λ _. (mapping_fits _ p (omega (arith, Inside.word_low t j hj)) g, tt)) (λ _. tt)
  word_recordable t i j (Err Unfound.NoPage) hi hj g = tt
  word_recordable t i j (Err Unfound.Missing) hi hj g = tt

  table_recordable : (t : Table) (o i n j : ℕ) → i < megabytes → j + n ≤ index_limit t → All Recordable (table_pages t l o i j n)
  unfolding table_pages
  table_recordable t o i zero j hi h = tt
  table_recordable t o i (suc n) j hi h =
      all_append Recordable (word_pages t i j (second_of t (table_word l o j))) (table_pages t l o i (suc j) n)
      (word_recordable t i j (second_of t (table_word l o j)) hi (omega arith) (second_fits t _ (word_low (o + 4 * j)))) (table_recordable t o i n (suc j) hi (omega arith))

  first_recordable : (base i : ℕ) (d : First) → i < megabytes → FirstFits d → All Recordable (first_pages l base i d)
  first_recordable base i First.Fault h g = tt
  first_recordable base i (First.Whole p) h g = (mapping_fits _ p (omega arith) g, tt)
  first_recordable base i (First.Coarse at) h g = table_recordable Table.Coarse (at.0 - base) i 256 0 h (omega arith)
  first_recordable base i (First.Fine at) h g = table_recordable Table.Fine (at.0 - base) i 1024 0 h (omega arith)

  level_recordable : (base n i : ℕ) → i + n ≤ megabytes → All Recordable (level_pages l base i n)
  unfolding level_pages
  level_recordable base zero i h = tt
  level_recordable base (suc n) i h =
      all_append Recordable (first_pages l base i (first_of (word_at l (4 * i)))) (level_pages l base (suc i) n)
      (first_recordable base i (first_of (word_at l (4 * i))) (omega arith) (first_fits _ (word_low (4 * i)))) (level_recordable base n (suc i) (omega arith))

-- so the builder reads the listed pages, and its image means them
pub rebuilt_alike : RebuiltAlike
rebuilt_alike l base k base' len before va a bytes e b low =
    let ms : List Mapping = pages_in megabytes l base in
    list_here (records_of ms) base' len before (records-bytes ms) (answer-is (records_of ms) base' len before b) va a low
    ∙ ap (λ (x : List Mapping). meant_as (meaning x va a)) (records_say ms (level_recordable l bytes base megabytes 0 (omega arith)))
    ∙ sym (alone l base k e va a low)

pub foreign : Foreign
foreign = record { refuses = audit_refuses; exactly = accepted-exactly; called = foreign-called; pages = pages-answer; built = built-accepted; rebuilt = rebuilt_alike }
