-- Demand 3 of what the chain computes, on every call: it names the first assignment that fits its own directions in its own ranking's order, 13 means
-- that none does, and behind the ranking nothing else but 14 is given. Assumes nothing.
use Rattle.std.specs.Prelude.{◌≡◌, List, ℕ, ◌≤◌, length}
use Rattle.refusal.specs.declared.Refusal.{Refusal}
use Rattle.refusal.specs.Numbers as number
use Rattle.refusal.specs.Table.{refusal_of}
use Rattle.frame_list.specs.Calls.{listing_of}
use Rattle.camera_direction.specs.ListLaws.{directions_in}
use Rattle.catalogue.specs.Format.{records_in}
use Rattle.search_theory.specs.Order.{at}
use Rattle.search.specs.Identified.{Identified}
use Rattle.search.proofs.Answers.{computed-identified}
use Rattle.chain.specs.declared.Settings.{Settings}
use Rattle.chain.specs.declared.Tracked.{Tracked}
use Rattle.chain.specs.Chain.{Call, listed, sights_of, names_of}
use Rattle.chain.specs.ReadyLaws.{Early}
use Rattle.std.specs.Prelude.{Err}

-- what `chain::names` answers is the search's promise for the frame's own directions, whatever ranking is lent
pub names-identified : (samples bytes : List ℕ) (s : Settings) (words : List ℕ)
    → Identified (sights_of (listing_of samples s.width s.height s.threshold).report bytes s) bytes s.needed s.tolerance words
    (names_of samples bytes s words)
unfolding names_of
names-identified samples bytes s words = computed-identified (sights_of (listing_of samples s.width s.height s.threshold).report bytes s) bytes
    s.needed s.tolerance words

-- ---- the first that fits

-- ---- the words of an accepted call

-- the frame's own list, and the eight words of its directions, 0 behind them
pub record Whole (c : Call) (t : Tracked) : Type 0 where
  pub report : t.report ≡ (listed c).report
  pub counted : directions_in (sights_of (listed c).report c.catalogue c.settings) ≡ (listed c).report.count
  pub size : length t.stars ≡ 8
  pub rest : (k : ℕ) → (listed c).report.count ≤ k → at t.stars k ≡ 0
  pub many : records_in c.catalogue ≤ 512

-- ---- the numbers that are given

-- one of the table's, and 13 names no place
pub record Numbered (q : Refusal) : Type 0 where
  pub some : 1 ≤ q.number
  pub last : q.number ≤ 23
  pub none : q.number ≡ number.no_fit → Err q ≡ refusal_of number.no_fit 0

pub early-numbered : (q : Refusal) → Early q.number → Numbered q
early-numbered q a = record { some = a.some; last = a.last; none = λ e. absurd (a.no-13 e) }
