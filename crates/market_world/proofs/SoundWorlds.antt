-- Lawful histories are sound, and complete where no event is outstanding.
use Rattle.market_events.specs.Links.{stock_node}
use Rattle.market_events.specs.declared.roles.Role.{Role}
use Rattle.market_events.proofs.Runs.Stock.{reserved-le-on_hand, sold-reserved-le-stocked}
use Rattle.market_history.specs.Blocks.{service_steps}
use Rattle.market_history.specs.Histories.{Histories, journal_at}
use Rattle.market_history.specs.Lawful.{IsLawful}
use Rattle.market_history.specs.Outstanding.{IsSettled}
use Rattle.market_laws.proofs.Moments.CopyFronts.{cart-front, stock-front, cart-shows, stock-shows}
use Rattle.market_laws.proofs.Origins.Made.{steps-run}
use Rattle.market_laws.proofs.Moments.Reservations.{reserved-listed, listed-wait}
use Rattle.market_laws.proofs.Pasts.Order.{taken-first}
use Rattle.market_laws.proofs.Book.Tables.{settled-book}
use Rattle.market_laws.proofs.Settled.Decided.{decided}
use Rattle.market_laws.proofs.Settled.Lanes.{lanes-idle, kept-answered}
use Rattle.market_world.specs.Sound.{IsSound, IsComplete}

pub sound_of : (h : Histories) → IsLawful h → IsSound h
sound_of h lawful = record {
  lawful = lawful;
  listed = λ key. reserved-listed h lawful key;
  covered = λ key. reserved-le-on_hand (service_steps h Role.Stock) (steps-run stock_node (journal_at h stock_node)) key;
  within = λ key. sold-reserved-le-stocked (service_steps h Role.Stock) (steps-run stock_node (journal_at h stock_node)) key;
  waits = listed-wait h lawful;
  cart_took = cart-front h lawful;
  stock_took = stock-front h lawful;
  cart_shows = cart-shows h lawful;
  stock_shows = stock-shows h lawful;
  taken_first = λ n k f e taken on into earlier took. taken-first h lawful n k f e taken into on earlier took;
}

pub complete_of : (h : Histories) → IsLawful h → IsSettled h → IsComplete h
complete_of h lawful settled = record {
  idle = λ lane lt. lanes-idle h lawful settled lane lt;
  answered = λ lane r lt here. kept-answered h lawful settled lane lt r here;
  decided = λ c kept. decided h lawful settled c kept;
  book = settled-book h lawful settled;
}
