-- What holds of every input that a service takes: it is well formed, comes on a link into the service that can carry it, and
-- the steps before are few; so it fits where its kind's own condition holds (every-fits).
use Rattle.std.proofs.Common.{◌≡◌, ℕ, ◌<◌, ◌==◌, ◌&&◌, true, nat_lt, List, length, sym, ◌∙◌, arith}
use Rattle.std.proofs.lemmas.Bool.Decides.{nat_tests}
use Rattle.market_events.specs.declared.bodies.Body.{Body}
use Rattle.market_events.specs.declared.events.Event.{Event}
use Rattle.market_events.specs.declared.links.Link.{Link}
use Rattle.market_events.specs.Carried.{carries}
use Rattle.market_events.specs.Formed.{body_formed}
use Rattle.market_events.specs.Links.{receiver_of}
use Rattle.market_events.specs.declared.roles.Role.{Role}
use Rattle.market_events.specs.Services.{node_of, fits, role_fits, most_steps}
use Rattle.market_events.specs.Steps.{Step}
use Rattle.market_events.proofs.Values.Formed.{IsBody-body_formed}
use Rattle.market_events.proofs.Values.Lists.{and_from}
use Rattle.market_history.specs.Blocks.{role_at, services}
use Rattle.market_history.specs.Histories.{Histories}
use Rattle.market_history.specs.Lawful.{IsLawful}
use Rattle.market_laws.specs.Cuts.{steps_at, TookAt, FitsAt}
use Rattle.market_laws.proofs.Origins.Senders.{taken-as}
use Rattle.market_laws.proofs.Growth.Outs.{node_of-role_at}
use Rattle.market_laws.proofs.Fits.FewSteps.{every-few}

lt_test : (a b : ℕ) → a < b → nat_lt a b ≡ true
lt_test a b lt = grind (arith, nat_tests)

eq_test : (a b : ℕ) → a ≡ b → (a == b) ≡ true
eq_test a b e = grind (arith, nat_tests)

-- an input that meets each condition fits
pub fits_from : (role : Role) (steps : List Step) (from : Link) (b : Body) → length steps < most_steps → body_formed b ≡ true → receiver_of from ≡ node_of role → carries from b ≡ true
    → role_fits role steps b ≡ true → fits role steps from b ≡ true
unfolding fits
fits_from role steps from b few formed into carried due =
    let here = eq_test (receiver_of from) (node_of role) into in
    let low = lt_test (length steps) most_steps few in
    let first = and_from (nat_lt (length steps) most_steps) (body_formed b) low formed in
    let second = and_from (nat_lt (length steps) most_steps && body_formed b) (receiver_of from == node_of role) first here in
    let third = and_from (nat_lt (length steps) most_steps && body_formed b && (receiver_of from == node_of role)) (carries from b) second carried in
    and_from (nat_lt (length steps) most_steps && body_formed b && (receiver_of from == node_of role) && carries from b) (role_fits role steps b) third due

module _ (h : Histories) (lawful : IsLawful h) (n : ℕ) (event : Event) (t : TookAt h n event) where
  -- what a node takes is well formed
  pub every-formed : body_formed event.body ≡ true
  every-formed = IsBody-body_formed event.body (taken-as h lawful n event t).formed

  -- it fits where its kind's condition holds
  pub every-fits : n < services → role_fits (role_at n) (steps_at n t.before) event.body ≡ true → FitsAt n t.before event
  every-fits lt due =
      fits_from (role_at n) (steps_at n t.before) event.link event.body (every-few h lawful n event t) every-formed
      (t.ready.1 ∙ sym (node_of-role_at n lt)) t.ready.2 due
