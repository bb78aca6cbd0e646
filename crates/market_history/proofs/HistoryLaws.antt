-- What a change of one journal leaves at it, and at the others.
use Rattle.std.proofs.Common.{◌≡◌, ◌≢◌, ℕ, ◌<◌, ◌≤◌, List, [], length}
use Rattle.std.proofs.lemmas.List.{length-set, get_or-set_same, get_or-set_other, get_or_past}
use Rattle.market_events.specs.declared.events.Entry.{Entry}
use Rattle.market_history.specs.Histories.{Histories, journal_at, with_journal}

pub journal_at-same : (h : Histories) (n : ℕ) (entries : List Entry) → n < length h → journal_at (with_journal h n entries) n ≡ entries
unfolding journal_at with_journal
journal_at-same h n entries lt = get_or-set_same h n entries [] lt

pub journal_at-other : (h : Histories) (n m : ℕ) (entries : List Entry) → m ≢ n → journal_at (with_journal h n entries) m ≡ journal_at h m
unfolding journal_at with_journal
journal_at-other h n m entries differs = get_or-set_other h n m entries [] differs

pub length-with_journal : (h : Histories) (n : ℕ) (entries : List Entry) → length (with_journal h n entries) ≡ length h
unfolding with_journal
length-with_journal h n entries = length-set h n entries

-- there is no journal past the last
pub journal_at-past : (h : Histories) (n : ℕ) → length h ≤ n → journal_at h n ≡ []
unfolding journal_at
journal_at-past h n past = get_or_past h n [] past
