-- A good bill stays good: no posting of good prices makes a finite figure infinite. Assumes nothing.
use Rattle.bill.specs.Names.{◌≡◌, Bool, true, false, List, [], ◌∷◌, ℕ, binary64, ◌and◌, sources, prices_ok, row_of, word_price, Place, Source}
use Rattle.bill.specs.Names.{Reads, Price, Prices, Side, Seen, Bill}
use Rattle.bill.proofs.Names.{sym, ap, ◌∙◌, subst, T, add-fits, finite, zero_is, place_posted, word_posted, words_posted, attempt_posted}
use Rattle.bill.proofs.Names.{seen_posted, fresh_bill}
use lib.Ieee.{add, fits}
use lib.Ieee.Bits.{of_bits-fits, is_true}
use Rattle.page.proofs.Picks.{and_yes, and_left, and_right}
use Rattle.prices.specs.Prices.{figure_ok, price_ok}
use Rattle.prices.proofs.Range.{in_range_lem}
use Rattle.prices.proofs.Figure.{charged_figure}
use Rattle.bill.specs.Bill.{bill_ok, money_ok, reads_posted, Good}
use Rattle.bill.proofs.Largest.{word_finite}
use Rattle.bill.proofs.Smoothing.{smoothed_finite, smoothed_fits}

holds : {t : Bool} → t ≡ true → T t
holds e = subst T (sym e) tt

both : {t x : Bool} → t ≡ true → x ≡ true → (t and x) ≡ true
both {t} {x} h k = and_yes t x h ∙ k

-- a total of a good bill with a good price's figure on it
charged_finite : (b : Bill) (p : Price) (side : Side) (row : ℕ) → Good b → price_ok p ≡ true → finite (add binary64 b.total (word_price p side row)) ≡ true
charged_finite b p side row g ok =
    is_true _
    (word_finite b.total (word_price p side row) (holds g.total_fits) (holds (and_left _ _ g.finite_both))
    (in_range_lem (word_price p side row) (charged_figure figure_ok p side row ok)))

charged_fits : (b : Bill) (p : Price) (side : Side) (row : ℕ) → fits binary64 (add binary64 b.total (word_price p side row)) ≡ true
charged_fits b p side row = is_true _ (add-fits binary64 b.total (word_price p side row))

stays_place : (p : Prices) (b : Bill) (place : Place) (row : ℕ) → Good b → prices_ok p ≡ true → Good (place_posted p b place row)
unfolding place_posted
stays_place p b (Place.OnChip k) row g ok = record {
  total_fits = charged_fits b p.onchip b.onchip row;
  misses_fits = g.misses_fits;
  finite_both = both (charged_finite b p.onchip b.onchip row g (and_left _ _ ok)) (and_right _ _ g.finite_both);
}
stays_place p b (Place.External k) row g ok = record {
  total_fits = charged_fits b p.external b.external row;
  misses_fits = g.misses_fits;
  finite_both = both (charged_finite b p.external b.external row g (and_right _ _ ok)) (and_right _ _ g.finite_both);
}
stays_place p b Place.Nowhere row g ok = g

pub stays_word : (p : Prices) (b : Bill) (s : Source) → Good b → prices_ok p ≡ true → Good (word_posted p b s)
stays_word p b s = stays_place p b s.place (row_of s.at)

pub stays_words : (p : Prices) (b : Bill) (ss : List Source) → Good b → prices_ok p ≡ true → Good (words_posted p b ss)
stays_words p b [] g ok = g
stays_words p b (s ∷ ss) g ok = stays_words p (word_posted p b s) ss (stays_word p b s g ok) ok

pub stays_reads : (p : Prices) (b : Bill) (r : Reads) → Good b → prices_ok p ≡ true → Good (reads_posted p b r)
stays_reads p b r = stays_words p b (sources r)

pub stays_attempt : (b : Bill) (missed : Bool) → Good b → Good (attempt_posted b missed)
unfolding attempt_posted
stays_attempt b missed g = record {
  total_fits = g.total_fits;
  misses_fits = is_true _ (smoothed_fits b.misses missed);
  finite_both = both (and_left _ _ g.finite_both) (is_true _ (smoothed_finite b.misses missed (holds g.misses_fits) (holds (and_right _ _ g.finite_both))));
}

pub stays_seen : (b : Bill) (seen : Seen) → Good b → Good (seen_posted b seen)
stays_seen b Seen.Nothing g = g
stays_seen b Seen.Match g = stays_attempt b false g
stays_seen b Seen.NoMatch g = stays_attempt b true g

-- the fresh bill is good
pub fresh_good : Good fresh_bill
fresh_good = record {
  total_fits = is_true _ (of_bits-fits binary64 0);
  misses_fits = is_true _ (of_bits-fits binary64 0);
  finite_both = both (ap finite zero_is) (ap finite zero_is);
}

-- good prices and a good bill are not refused
pub good-money : (p : Prices) (b : Bill) → prices_ok p ≡ true → Good b → money_ok p b ≡ true
unfolding money_ok
good-money p b ok g = both ok g.finite_both

-- and what is not refused has good prices and finite figures
pub money-prices : (p : Prices) (b : Bill) → money_ok p b ≡ true → prices_ok p ≡ true
unfolding money_ok
money-prices p b h = and_left _ _ h

pub money-bill : (p : Prices) (b : Bill) → money_ok p b ≡ true → bill_ok b ≡ true
unfolding money_ok
money-bill p b h = and_right _ _ h
