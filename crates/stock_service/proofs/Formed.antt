-- The keys and ids of what stock keeps after a run are well formed.
use Rattle.std.proofs.Common.{◌≡◌, Bool, true, false, ◌&&◌, ◌||◌, List, [], ◌∷◌, ◌++◌, Option, Some, None, filter_map, find, option_map, if◌then◌else◌, nat_le, refl, ap, sym, subst, ◌∙◌, append-nil, append_assoc}
use Rattle.std.specs.List.{list_all, cons_option}
use Rattle.std.proofs.lemmas.List.Folds.{list_all-append}
use Rattle.market_amounts.specs.declared.keys.ProductKey.{ProductKey}
use Rattle.market_amounts.specs.declared.keys.RequestId.{RequestId}
use Rattle.market_events.specs.declared.bodies.Body.{Body}
use Rattle.market_events.specs.declared.bodies.Body.TheVariants as body
use Rattle.market_events.specs.declared.bodies.PricedLine.{PricedLine}
use Rattle.market_events.specs.declared.links.TheConstants.{STOCK_TO_ORDER}
use Rattle.market_events.specs.declared.requests.Ask.{Ask}
use Rattle.market_events.specs.declared.requests.Ask.TheVariants as ask
use Rattle.market_events.specs.Carts.{is_accepted}
use Rattle.market_events.specs.Formed.{key_formed, request_id_formed, id_formed, lines_formed, checkout_formed, ask_formed, body_formed, pieces_formed}
use Rattle.market_events.specs.Links.{same_link}
use Rattle.market_events.specs.Orders.{is_of}
use Rattle.market_events.specs.declared.roles.Role.{Role}
use Rattle.market_events.specs.Services.{Follows, RunsFrom, IsRunOf}
use Rattle.market_events.specs.Steps.{Step, Sending, body_on}
use Rattle.market_events.specs.Stocks.{Reservation, reservation_in, reservations, is_settled}
use Rattle.market_events.proofs.Values.Lists.{and_both}
use Rattle.market_events.proofs.Shapes.WellFormed.{are_formed, answers-formed}
use Rattle.market_events.proofs.Steps.Reservations.{found-is}
use Rattle.market_events.proofs.Values.Same.{same_key-true}
use Rattle.market_events.proofs.Steps.Taken.{fits-parts, run_has, run-push}
use Rattle.market_events.proofs.Steps.Pieces.{reservations_of, reservations-push}
use Rattle.market_events.proofs.Runs.Totals.{found-passes}
use Rattle.stock_service.specs.Holds.{stocks_in, stocks_asked, was_stocked, lines_held}
use Rattle.stock_service.proofs.Sums.{was_stocked-push}

-- a well-formed body stocks pieces of a product whose key is well formed
stocks_formed : (key : ProductKey) (b : Body) → body_formed b ≡ true → stocks_in key b ≡ true → key_formed key ≡ true
stocks_formed key (body.Asked request) formed is = asks request.ask (and_both (request_id_formed request.id) (ask_formed request.ask) formed).1 is
  where
    asks : (what : Ask) → ask_formed what ≡ true → stocks_asked key what ≡ true → key_formed key ≡ true
    asks (ask.Stock k pieces) formed is =
        let outer = and_both (key_formed k && nat_le 1 pieces) (pieces_formed pieces) formed in
        ap key_formed (sym (same_key-true k key is)) ∙ (and_both (key_formed k) (nat_le 1 pieces) outer.0).0
    asks other formed is = cc
stocks_formed key other formed is = cc

-- after a run, the key of a product of which pieces were stocked is well formed
pub stocked-formed : (steps : List Step) → IsRunOf Role.Stock steps → (key : ProductKey) → was_stocked steps key ≡ true → key_formed key ≡ true
stocked-formed steps run key = run_has Role.Stock (λ steps. was_stocked steps key ≡ true → key_formed key ≡ true) keeps (λ none. cc) steps run
  where
    keeps : (steps : List Step) (s : Step) → Follows Role.Stock steps s → (was_stocked steps key ≡ true → key_formed key ≡ true) → was_stocked (steps ++ s ∷ []) key ≡ true → key_formed key ≡ true
    keeps steps s follows before now = either (was_stocked steps key) refl (sym (was_stocked-push steps s key) ∙ now)
      where
        either : (b : Bool) → was_stocked steps key ≡ b → (was_stocked steps key || (is_accepted s && stocks_in key s.body)) ≡ true → key_formed key ≡ true
        either true was now = before was
        either false was now =
            stocks_formed key s.body (fits-parts Role.Stock steps s.from s.body follows.fit).formed (and_both (is_accepted s) (stocks_in key s.body) (rw was at now)).1

-- a reservation of a well-formed checkout
abbrev pub is_checkout_formed : Reservation → Bool
is_checkout_formed r = checkout_formed r.checkout r.customer r.lines

-- the reservations among what a step makes are of well-formed checkouts
made_formed : (made : List Sending) → are_formed made ≡ true → list_all is_checkout_formed (filter_map reservation_in (filter_map (body_on STOCK_TO_ORDER) made)) ≡ true
made_formed [] formed = refl
made_formed (out ∷ more) formed =
    let both = and_both (body_formed out.1) (are_formed more) formed in
    on_link (same_link out.0 STOCK_TO_ORDER) out.1 both.0 (made_formed more both.1)
  where
    one : (b : Body) → body_formed b ≡ true → (rest : List Reservation) → list_all is_checkout_formed rest ≡ true → list_all is_checkout_formed (cons_option (reservation_in b) rest) ≡ true
    one (body.StockConfirmed checkout customer lines) formed rest all = rw (formed, all)
    one other formed rest all = all

    on_link : (b : Bool) (out : Body) → body_formed out ≡ true → list_all is_checkout_formed (filter_map reservation_in (filter_map (body_on STOCK_TO_ORDER) more)) ≡ true
        → list_all is_checkout_formed (filter_map reservation_in (cons_option (if b then Some out else None) (filter_map (body_on STOCK_TO_ORDER) more))) ≡ true
    on_link true out formed all = one out formed (filter_map reservation_in (filter_map (body_on STOCK_TO_ORDER) more)) all
    on_link false out formed all = all

-- after a run, each reservation is of a well-formed checkout
pub reservations-formed : (steps : List Step) → IsRunOf Role.Stock steps → list_all is_checkout_formed (reservations steps) ≡ true
reservations-formed steps run = from [] steps tt run refl
  where
    from : (before more : List Step) → IsRunOf Role.Stock before → RunsFrom Role.Stock before more → list_all is_checkout_formed (reservations before) ≡ true → list_all is_checkout_formed (reservations (before ++ more)) ≡ true
    from before [] run rest all = subst (λ steps. list_all is_checkout_formed (reservations steps) ≡ true) (sym (append-nil before)) all
    from before (s ∷ more) run rest all =
        let made : are_formed s.made ≡ true = ap are_formed rest.0.made ∙ answers-formed Role.Stock before s.from s.body run rest.0.fit in
        let now : list_all is_checkout_formed (reservations (before ++ s ∷ [])) ≡ true
        = rw (reservations-push before s, list_all-append is_checkout_formed (reservations before) (reservations_of s), all) (made_formed s.made made) in
        subst (λ steps. list_all is_checkout_formed (reservations steps) ≡ true) (append_assoc before (s ∷ []) more) (from (before ++ s ∷ []) more (run-push Role.Stock before s run rest.0) rest.1 now)

-- what is held after a run is of a well-formed checkout
pub record IsHeldFormed (id : RequestId) (lines : List PricedLine) : Type 0 where
  pub checkout : request_id_formed id ≡ true
  pub all : lines_formed lines ≡ true

-- so is what is held of it
pub held-formed : (steps : List Step) → IsRunOf Role.Stock steps → (id : RequestId) (lines : List PricedLine) → lines_held steps id ≡ Some lines → IsHeldFormed id lines
held-formed steps run id lines held = either (is_settled steps id) (find (is_of id) (reservations steps)) refl held
  where
    one : {A : Type 0} {x y : A} → Some x ≡ Some y → x ≡ y
    one e = cc

    either : (b : Bool) (o : Option Reservation) → find (is_of id) (reservations steps) ≡ o → (if b then None else option_map (λ (r : Reservation). r.lines) o) ≡ Some lines → IsHeldFormed id lines
    either true o found e = cc
    either false None found e = cc
    either false (Some r) found e =
        let passes = found-passes is_checkout_formed (is_of id) (reservations steps) r (reservations-formed steps run) found in
        let outer = and_both (request_id_formed r.checkout && id_formed r.customer) (lines_formed r.lines) passes in
        record {
          checkout = ap request_id_formed (sym (found-is id (reservations steps) r found)) ∙ (and_both (request_id_formed r.checkout) (id_formed r.customer) outer.0).0;
          all = ap lines_formed (sym (one e)) ∙ outer.1;
        }
