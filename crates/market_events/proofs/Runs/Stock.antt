-- What holds of stock after a run: a checkout is reserved once, and what is sold and reserved stays within what is stocked.
use Rattle.std.proofs.Common.{◌≡◌, ℕ, ◌+◌, ◌-◌, ◌≤◌, Bool, true, false, cond, ◌&&◌, ◌||◌, not, List, [], ◌∷◌, ◌++◌, Option, Some, None, filter_map, if◌then◌else◌, count_by, nat_lt, nat_le, length, refl, ap, sym, subst, ◌∙◌, arith, ltb-false}
use Rattle.std.proofs.lemmas.Bool.Decides.{nat_tests}
use Rattle.std.specs.List.{list_any, list_all}
use Rattle.std.specs.Option.{option_or}
use Rattle.std.proofs.lemmas.List.Sums.{sum_by_push, sum_by-cons}
use Rattle.market_amounts.specs.declared.keys.ProductKey.{ProductKey}
use Rattle.market_amounts.specs.declared.keys.RequestId.{RequestId}
use Rattle.market_events.specs.declared.bodies.Body.{Body}
use Rattle.market_events.specs.declared.bodies.Body.TheVariants as body
use Rattle.market_events.specs.declared.bodies.PricedLine.{PricedLine}
use Rattle.market_events.specs.declared.bodies.StockRule.{StockRule}
use Rattle.market_events.specs.declared.bodies.StockRule.TheVariants as stock
use Rattle.market_events.specs.Looks.{is_live}
use Rattle.market_events.specs.Requests.{same_key, same_id}
use Rattle.market_events.specs.declared.links.Link.{Link}
use Rattle.market_events.specs.declared.changes.Look.{Look}
use Rattle.market_events.specs.declared.changes.Look.TheVariants.{Unknown, Gone, Live}
use Rattle.market_events.specs.declared.links.TheConstants.{STOCK_TO_ORDER}
use Rattle.market_events.specs.declared.requests.Ask.{Ask}
use Rattle.market_events.specs.declared.requests.Ask.TheVariants as ask
use Rattle.market_events.specs.Carts.{changes_taken, is_accepted}
use Rattle.market_events.specs.Copies.{copy_of}
use Rattle.market_events.specs.Formed.{body_formed, checkout_formed, request_id_formed, id_formed, lines_formed, line_formed}
use Rattle.market_events.specs.Orders.{is_of, is_taken}
use Rattle.market_events.specs.Services.{Role, Follows, IsRunOf, answers, reserves, stock_fits, is_known, is_for, is_for_lines}
use Rattle.market_events.specs.declared.replies.Reply.TheVariants as reply
use Rattle.market_events.specs.declared.replies.Rule.TheVariants as rule
use Rattle.market_events.specs.Links.{stock_node}
use Rattle.market_events.specs.Steps.{Step, body_on, told, refused}
use Rattle.market_events.specs.Stocks.{StockSums, Reservation, reservation_in, reservations, confirms, settles, is_settled, pieces_in, pieces_of, stocked, sold, reserved, on_hand, line_refusal, first_some, stock_rows, level_rows, stock_asked, reserve_rows, stock_taken_rows, stock_sums}
use Rattle.market_events.specs.WellFormed.{key_below, keys_rise, pieces_max, most_lines}
use Rattle.market_events.proofs.Values.Same.{same_id-true, same_key-true}
use Rattle.market_events.proofs.Steps.Taken.{is_taken-push, is_settled-push, fits-parts, run_has}
use Rattle.market_events.proofs.Steps.Pieces.{stocked-push-accepted, stocked-push-refused, stocked-push-other, reservations_of, reservations-push, reservations-same, pieces_under, confirms-settles, unsettled-unconfirmed, sold-push-same, reserved-push-same, sold-push-reserved, reserved-push-reserved, sold-push-confirmed, reserved-push-settled}
use Rattle.market_events.proofs.Steps.Reservations.{IsOnce, for-of, for_lines-of}
use Rattle.market_events.proofs.Values.Lists.{and_both, or_false, and_not, count-some, any_weaker, any-none, not_true}

-- numbers below others are not the same
below_apart : (a b x y : ℕ) → key_below (record { seller = a; product = b }) (record { seller = x; product = y }) ≡ true → same_key (record { seller = x; product = y }) (record { seller = a; product = b }) ≡ false
below_apart a b x y below = grind (arith, nat_tests)

-- pairs of numbers below others below others
below_trans : (a b x y z w : ℕ) → key_below (record { seller = a; product = b }) (record { seller = x; product = y }) ≡ true → key_below (record { seller = x; product = y }) (record { seller = z; product = w }) ≡ true → key_below (record { seller = a; product = b }) (record { seller = z; product = w }) ≡ true
below_trans a b x y z w first second = grind (arith, nat_tests)

-- a key below another is not the same
pub key_below-apart : (a b : ProductKey) → key_below a b ≡ true → same_key b a ≡ false
key_below-apart a b below = below_apart a.seller a.product b.seller b.product below

-- a key below a key below another
pub key_below-trans : (a b c : ProductKey) → key_below a b ≡ true → key_below b c ≡ true → key_below a c ≡ true
key_below-trans a b c first second = below_trans a.seller a.product b.seller b.product c.seller c.product first second

-- lines of rising keys have no pieces of a product below the first
pub pieces_of-above : (key : ProductKey) (line : PricedLine) (more : List PricedLine) → key_below key line.key ≡ true → keys_rise (line ∷ more) ≡ true → pieces_of key (line ∷ more) ≡ 0
pieces_of-above key line [] below rise = rw (key_below-apart key line.key below)
pieces_of-above key line (next ∷ more) below rise =
    let both = and_both (key_below line.key next.key) (keys_rise (next ∷ more)) rise in
    sum_by-cons (λ (line : PricedLine). if same_key line.key key then line.quantity else 0) line (next ∷ more)
    ∙ rw (key_below-apart key line.key below) (omega (arith, pieces_of-above key next more (key_below-trans key line.key next.key below both.0) both.1))

-- the lines after the first rise too
pub keys_rise-tail : (line : PricedLine) (more : List PricedLine) → keys_rise (line ∷ more) ≡ true → keys_rise more ≡ true
keys_rise-tail line [] rise = refl
keys_rise-tail line (next ∷ more) rise = (and_both (key_below line.key next.key) (keys_rise (next ∷ more)) rise).1

-- lines of rising keys have no other line of the first one's product
pub pieces_of-first : (line : PricedLine) (more : List PricedLine) → keys_rise (line ∷ more) ≡ true → pieces_of line.key more ≡ 0
pieces_of-first line [] rise = refl
pieces_of-first line (next ∷ more) rise =
    let both = and_both (key_below line.key next.key) (keys_rise (next ∷ more)) rise in
    pieces_of-above line.key next more both.0 both.1

-- lines of rising keys that are all accepted have no more pieces of a product than are free
pub pieces_of-free : (s : StockSums) (key : ProductKey) (lines : List PricedLine) → first_some (line_refusal s) lines ≡ None → keys_rise lines ≡ true → pieces_of key lines ≤ s.on_hand key - s.reserved key
pieces_of-free s key [] accepted rise = omega arith
pieces_of-free s key (line ∷ more) accepted rise =
    let both = neither (line_refusal s line) (first_some (line_refusal s) more) accepted in
    let enough = not_short {A = ProductKey × StockRule} (line.key, stock.Gone) (line.key, stock.Short) (is_live (s.look line.key)) (nat_lt (s.on_hand line.key - s.reserved line.key) line.quantity) both.0 in
    rw (sum_by-cons (λ (line : PricedLine). if same_key line.key key then line.quantity else 0) line more)
    (either (same_key line.key key) refl (ltb-false (s.on_hand line.key - s.reserved line.key) line.quantity enough) (pieces_of-free s key more both.1 (keys_rise-tail line more rise)))
  where
    neither : {A : Type 0} (a b : Option A) → option_or a b ≡ None → (a ≡ None) × (b ≡ None)
    neither None b h = (refl, h)
    neither (Some x) b h = cc

    not_short : {A : Type 0} (x y : A) (live short : Bool) → (if not live then Some x else if short then Some y else None) ≡ None → short ≡ false
    not_short x y true true h = cc
    not_short x y true false h = refl
    not_short x y false short h = cc

    either : (b : Bool) → same_key line.key key ≡ b → line.quantity ≤ s.on_hand line.key - s.reserved line.key → pieces_of key more ≤ s.on_hand key - s.reserved key → (if same_key line.key key then line.quantity else 0) + pieces_of key more ≤ s.on_hand key - s.reserved key
    either true same enough rest =
        let at = same_key-true line.key key same in
        let none : pieces_of key more ≡ 0 = subst (λ k. pieces_of k more ≡ 0) at (pieces_of-first line more rise) in
        let free : line.quantity ≤ s.on_hand key - s.reserved key = subst (λ k. line.quantity ≤ s.on_hand k - s.reserved k) at enough in
        rw (same, none) (omega arith)
    either false same enough rest = rw same (omega (arith, rest))

-- the lines of a well-formed checkout rise
pub lines_formed-rise : (lines : List PricedLine) → lines_formed lines ≡ true → keys_rise lines ≡ true
lines_formed-rise lines formed = last (nat_le 1 (length lines)) (nat_le (length lines) most_lines) (list_all line_formed lines) (keys_rise lines) formed
  where
    last : (a b c d : Bool) → (a && b && c && d) ≡ true → d ≡ true
    last true true true d h = h
    last true true false d h = cc
    last true false c d h = cc
    last false b c d h = cc

-- the lines of a well-formed checkout are well formed
pub checkout_formed-lines : (checkout : RequestId) (customer : ℕ) (lines : List PricedLine) → checkout_formed checkout customer lines ≡ true → lines_formed lines ≡ true
checkout_formed-lines checkout customer lines formed = last (request_id_formed checkout) (id_formed customer) (lines_formed lines) formed
  where
    last : (a b c : Bool) → (a && b && c) ≡ true → c ≡ true
    last true true c h = h
    last true false c h = cc
    last false b c h = cc

-- what stock answers
pub answers-stock : (steps : List Step) (from : Link) (b : Body) → answers Role.Stock steps from b ≡ stock_taken_rows (stock_sums steps) b
unfolding answers
answers-stock steps from b = refl

-- what holds of stock after a run
pub record StockRun (steps : List Step) : Type 0 where
  -- a checkout has one reservation at most, and none where it was not asked for
  pub once : (id : RequestId) → count_by (is_of id) (reservations steps) ≤ (if is_taken reserves steps id then 1 else 0)
  -- a checkout is not settled before it was asked for
  pub later : (id : RequestId) → is_taken reserves steps id ≡ false → is_settled steps id ≡ false
  -- what is sold and reserved was stocked
  pub within : (key : ProductKey) → sold steps key + reserved steps key ≤ stocked steps key
  -- no more is on hand than can be
  pub most : (key : ProductKey) → on_hand steps key ≤ pieces_max

-- a step that makes no reservation and settles none, and stocks no more than can be on hand
still : (steps : List Step) (s : Step) (b : Body) → s.body ≡ b → ((id : RequestId) → settles id b ≡ false) → ((id : RequestId) → reserves id b ≡ false) → reservations_of s ≡ []
    → ((key : ProductKey) → stocked steps key ≤ stocked (steps ++ s ∷ []) key) → ((key : ProductKey) → stocked (steps ++ s ∷ []) key - sold steps key ≤ pieces_max) → StockRun steps → StockRun (steps ++ s ∷ [])
still steps s b is unsettling unreserving none more few run = record {
  once = λ id. rw (reservations-same steps s none, is_taken-push reserves steps s id, is, unreserving id, or_false (is_taken reserves steps id)) (run.once id);
  later = λ id new. is_settled-push steps s id ∙ rw (is, unsettling id, or_false (is_settled steps id)) (run.later id (before id new));
  within = λ key. rw (sold-push-same steps s key none (unconfirming), reserved-push-same steps s key none settled) (omega (arith, run.within key, more key));
  most = λ key. rw (sold-push-same steps s key none unconfirming) (few key);
}
  where
    settled : (id : RequestId) → settles id s.body ≡ false
    settled id = ap (settles id) is ∙ unsettling id

    unconfirming : (id : RequestId) → confirms id s.body ≡ false
    unconfirming id = confirms-settles id s.body (settled id)

    before : (id : RequestId) → is_taken reserves (steps ++ s ∷ []) id ≡ false → is_taken reserves steps id ≡ false
    before id new = sym (is_taken-push reserves steps s id ∙ rw (is, unreserving id) (or_false (is_taken reserves steps id))) ∙ new

-- a step that changes nothing
quiet : (steps : List Step) (s : Step) (b : Body) → s.body ≡ b → ((id : RequestId) → settles id b ≡ false) → ((id : RequestId) → reserves id b ≡ false) → reservations_of s ≡ []
    → ((key : ProductKey) → stocked (steps ++ s ∷ []) key ≡ stocked steps key) → StockRun steps → StockRun (steps ++ s ∷ [])
quiet steps s b is unsettling unreserving none same run =
    still steps s b is unsettling unreserving none (λ key. omega (arith, same key)) (λ key. rw (same key) (run.most key)) run

-- what a request makes is told, and is no reservation
told_only : (s : StockSums) (id : RequestId) (what : Ask) → filter_map (body_on STOCK_TO_ORDER) (stock_asked s id what) ≡ []
told_only s id (ask.Stock key pieces) = stocks (s.look key) (s.on_hand key)
  where
    by_room : (over : Bool) (here : ℕ) → filter_map (body_on STOCK_TO_ORDER) (if over then refused stock_node id rule.StockOver else told stock_node id (reply.Stocked here) ∷ []) ≡ []
    by_room true here = refl
    by_room false here = refl

    stocks : (look : Look) (here : ℕ) → filter_map (body_on STOCK_TO_ORDER) (stock_rows id pieces look here) ≡ []
    stocks Unknown here = refl
    stocks (Gone v) here = refl
    stocks (Live v price freight) here = by_room (nat_lt pieces_max (here + pieces)) (here + pieces)
told_only s id (ask.Level key) = levels (s.look key)
  where
    levels : (look : Look) → filter_map (body_on STOCK_TO_ORDER) (level_rows id look (s.on_hand key) (s.reserved key)) ≡ []
    levels Unknown = refl
    levels (Gone v) = refl
    levels (Live v price freight) = refl
told_only s id other = refl

-- an accepted request for stock leaves no more on hand than can be
stocks_few : (steps : List Step) (s : Step) (id : RequestId) (k : ProductKey) (pieces : ℕ) (look : Look) → s.made ≡ stock_rows id pieces look (on_hand steps k) → is_accepted s ≡ true → on_hand steps k + pieces ≤ pieces_max
stocks_few steps s id k pieces Unknown made accepted = cc
stocks_few steps s id k pieces (Gone v) made accepted = cc
stocks_few steps s id k pieces (Live v price freight) made accepted = by_room (nat_lt pieces_max (on_hand steps k + pieces)) refl
  where
    by_room : (over : Bool) → nat_lt pieces_max (on_hand steps k + pieces) ≡ over → on_hand steps k + pieces ≤ pieces_max
    by_room true over = cc
    by_room false over = ltb-false pieces_max (on_hand steps k + pieces) over

-- a request
asked : (steps : List Step) (s : Step) (id : RequestId) (what : Ask) → s.body ≡ body.Asked (record { id = id; ask = what }) → s.made ≡ stock_asked (stock_sums steps) id what → StockRun steps → StockRun (steps ++ s ∷ [])
asked steps s id (ask.Stock k pieces) is made run = by_accepted (is_accepted s) refl
  where
    none : reservations_of s ≡ []
    none = ap (λ m. filter_map reservation_in (filter_map (body_on STOCK_TO_ORDER) m)) made ∙ ap (filter_map reservation_in) (told_only (stock_sums steps) id (ask.Stock k pieces))

    by_key : (key : ProductKey) (n : ℕ) → on_hand steps k + pieces ≤ pieces_max → on_hand steps key ≤ pieces_max → (b : Bool) → same_key k key ≡ b → (stocked steps key + (if same_key k key then pieces else 0)) - sold steps key ≤ pieces_max
    by_key key n few most true same = rw same (let at : on_hand steps key + pieces ≤ pieces_max = subst (λ key. on_hand steps key + pieces ≤ pieces_max) (same_key-true k key same) few in omega arith)
    by_key key n few most false same = rw same (omega arith)

    by_accepted : (b : Bool) → is_accepted s ≡ b → StockRun (steps ++ s ∷ [])
    by_accepted true accepted =
        let few = stocks_few steps s id k pieces (copy_of (changes_taken steps) k) made accepted in
        still steps s (body.Asked (record { id = id; ask = ask.Stock k pieces })) is (λ id. refl) (λ id. refl) none
        (λ key. omega (arith, stocked-push-accepted steps s key accepted))
        (λ key. rw (stocked-push-accepted steps s key accepted, is) (by_key key 0 few (run.most key) (same_key k key) refl)) run
    by_accepted false unaccepted =
        quiet steps s (body.Asked (record { id = id; ask = ask.Stock k pieces })) is (λ id. refl) (λ id. refl) none (λ key. stocked-push-refused steps s key unaccepted) run
asked steps s id other is made run =
    quiet steps s (body.Asked (record { id = id; ask = other })) is (λ id. refl) (λ id. refl)
    (ap (λ m. filter_map reservation_in (filter_map (body_on STOCK_TO_ORDER) m)) made ∙ ap (filter_map reservation_in) (told_only (stock_sums steps) id other))
    (λ key. stocked-push-other steps s key (ap (pieces_in key) is)) run

-- what a checkout makes: a reservation, or none
reserving : (steps : List Step) (s : Step) (checkout : RequestId) (customer : ℕ) (lines : List PricedLine) (refusal : Option (ProductKey × StockRule)) → first_some (line_refusal (stock_sums steps)) lines ≡ refusal
    → s.body ≡ body.Reserve checkout customer lines → s.made ≡ reserve_rows checkout customer lines refusal → is_taken reserves steps checkout ≡ false → keys_rise lines ≡ true → StockRun steps → StockRun (steps ++ s ∷ [])
reserving steps s checkout customer lines (Some refusal) says is made new rise run = record {
  once = λ id. rw (reservations-same steps s none, is_taken-push reserves steps s id, is) (more (is_taken reserves steps id) (same_id checkout id) (run.once id));
  later = λ id new. is_settled-push steps s id ∙ rw (is, or_false (is_settled steps id)) (run.later id (before id new));
  within = λ key. rw (sold-push-same steps s key none (λ id. ap (confirms id) is), reserved-push-same steps s key none (λ id. ap (settles id) is), stocked-push-other steps s key (ap (pieces_in key) is)) (run.within key);
  most = λ key. rw (sold-push-same steps s key none (λ id. ap (confirms id) is), stocked-push-other steps s key (ap (pieces_in key) is)) (run.most key);
}
  where
    none : reservations_of s ≡ []
    none = ap (λ m. filter_map reservation_in (filter_map (body_on STOCK_TO_ORDER) m)) made

    more : (a b : Bool) {n : ℕ} → n ≤ (if a then 1 else 0) → n ≤ (if a || b then 1 else 0)
    more true b h = h
    more false true h = omega (arith, h)
    more false false h = h

    or_left : (a b : Bool) → (a || b) ≡ false → a ≡ false
    or_left false b h = refl
    or_left true b h = cc

    before : (id : RequestId) → is_taken reserves (steps ++ s ∷ []) id ≡ false → is_taken reserves steps id ≡ false
    before id new = or_left (is_taken reserves steps id) (reserves id s.body) (sym (is_taken-push reserves steps s id) ∙ new)
reserving steps s checkout customer lines None says is made new rise run = record {
  once = λ id. rw (reservations-push steps s, one, sum_by_push (λ (r : Reservation). cond (is_of id r) 1 0) (reservations steps) r, is_taken-push reserves steps s id, is) (counted id (same_id checkout id) refl);
  later = λ id new. is_settled-push steps s id ∙ rw (is, or_false (is_settled steps id)) (run.later id (before id new));
  within = λ key. rw (sold-push-reserved steps s key r one (λ id. ap (confirms id) is) (unsettled-unconfirmed steps checkout unsettled), reserved-push-reserved steps s key r one (λ id. ap (settles id) is) unsettled, stocked-push-other steps s key (ap (pieces_in key) is))
      (omega (arith, run.within key, pieces_of-free (stock_sums steps) key lines says rise));
  most = λ key. rw (sold-push-reserved steps s key r one (λ id. ap (confirms id) is) (unsettled-unconfirmed steps checkout unsettled), stocked-push-other steps s key (ap (pieces_in key) is)) (run.most key);
}
  where
    r : Reservation
    r = record { checkout = checkout; customer = customer; lines = lines }

    one : reservations_of s ≡ record { checkout = checkout; customer = customer; lines = lines } ∷ []
    one = ap (λ m. filter_map reservation_in (filter_map (body_on STOCK_TO_ORDER) m)) made

    unsettled : is_settled steps checkout ≡ false
    unsettled = run.later checkout new

    or_left : (a b : Bool) → (a || b) ≡ false → a ≡ false
    or_left false b h = refl
    or_left true b h = cc

    before : (id : RequestId) → is_taken reserves (steps ++ s ∷ []) id ≡ false → is_taken reserves steps id ≡ false
    before id new = or_left (is_taken reserves steps id) (reserves id s.body) (sym (is_taken-push reserves steps s id) ∙ new)

    counted : (id : RequestId) (b : Bool) → same_id checkout id ≡ b → count_by (is_of id) (reservations steps) + cond (same_id checkout id) 1 0 ≤ (if is_taken reserves steps id || same_id checkout id then 1 else 0)
    counted id true same =
        let at : is_taken reserves steps id ≡ false = ap (is_taken reserves steps) (sym (same_id-true checkout id same)) ∙ new in
        let few : count_by (is_of id) (reservations steps) ≤ 0 = rw at at (run.once id) in
        rw (same, at) (omega arith)
    counted id false same = rw (same, or_false (is_taken reserves steps id)) (omega (arith, run.once id))

-- what a payment, or that there is none, makes of what is sold: so much of the checkout's pieces was reserved
settling : (steps : List Step) (s : Step) (b : Body) (checkout : RequestId) → s.body ≡ b → ((id : RequestId) → settles id b ≡ same_id checkout id) → ((id : RequestId) → reserves id b ≡ false) → ((key : ProductKey) → pieces_in key b ≡ 0)
    → reservations_of s ≡ [] → list_any (is_of checkout) (reservations steps) ≡ true → is_settled steps checkout ≡ false
    → ((key : ProductKey) → sold (steps ++ s ∷ []) key ≤ sold steps key + pieces_under checkout key (reservations steps)) → ((key : ProductKey) → sold steps key ≤ sold (steps ++ s ∷ []) key)
    → StockRun steps → StockRun (steps ++ s ∷ [])
settling steps s b checkout is settle unreserving nothing none any unsettled most_sold more_sold run = record {
  once = λ id. rw (reservations-same steps s none, is_taken-push reserves steps s id, is, unreserving id, or_false (is_taken reserves steps id)) (run.once id);
  later = λ id new. is_settled-push steps s id ∙ rw (is, settle id) (neither id (before id new) (same_id checkout id) refl);
  within = λ key. rw (stocked-push-other steps s key (ap (pieces_in key) is ∙ nothing key))
      (omega (arith, run.within key, most_sold key, reserved-push-settled steps s key checkout none (λ id. ap (settles id) is ∙ settle id) unsettled));
  most = λ key. rw (stocked-push-other steps s key (ap (pieces_in key) is ∙ nothing key)) (omega (arith, run.most key, more_sold key));
}
  where
    before : (id : RequestId) → is_taken reserves (steps ++ s ∷ []) id ≡ false → is_taken reserves steps id ≡ false
    before id new = sym (is_taken-push reserves steps s id ∙ rw (is, unreserving id) (or_false (is_taken reserves steps id))) ∙ new

    neither : (id : RequestId) → is_taken reserves steps id ≡ false → (t : Bool) → same_id checkout id ≡ t → (is_settled steps id || same_id checkout id) ≡ false
    neither id new false same = rw (same, run.later id new)
    neither id new true same =
        let here : is_taken reserves steps checkout ≡ false = ap (is_taken reserves steps) (same_id-true checkout id same) ∙ new in
        let few : count_by (is_of checkout) (reservations steps) ≤ 0 = rw here at (run.once checkout) in
        absurd (omega (arith, few, count-some (is_of checkout) (reservations steps) any))

-- each body that fits keeps it
by_body : (steps : List Step) (s : Step) (b : Body) → s.body ≡ b → s.made ≡ stock_taken_rows (stock_sums steps) b → stock_fits steps b ≡ true → body_formed b ≡ true → StockRun steps → StockRun (steps ++ s ∷ [])
by_body steps s (body.Asked request) is made fit formed run = asked steps s request.id request.ask is made run
by_body steps s (body.Reserve checkout customer lines) is made fit formed run =
    let both = and_both (not (is_taken reserves steps checkout)) (list_all (λ (line : PricedLine). is_known (copy_of (changes_taken steps) line.key)) lines) fit in
    reserving steps s checkout customer lines (first_some (line_refusal (stock_sums steps)) lines) refl is made (not_true (is_taken reserves steps checkout) both.0) (lines_formed-rise lines (checkout_formed-lines checkout customer lines formed)) run
by_body steps s (body.Confirmed checkout customer lines total) is made fit formed run =
    let both = and_not (list_any (is_for_lines checkout customer lines) (reservations steps)) (is_settled steps checkout) fit in
    let any = any_weaker (is_for_lines checkout customer lines) (is_of checkout) (for_lines-of checkout customer lines) (reservations steps) both.0 in
    let none : reservations_of s ≡ [] = ap (λ m. filter_map reservation_in (filter_map (body_on STOCK_TO_ORDER) m)) made in
    let now = λ (key : ProductKey). sold-push-confirmed steps s key checkout none (λ id. ap (confirms id) is) (unsettled-unconfirmed steps checkout both.1) in
    settling steps s (body.Confirmed checkout customer lines total) checkout is (λ id. refl) (λ id. refl) (λ key. refl) none any both.1 (λ key. omega (arith, now key)) (λ key. omega (arith, now key)) run
by_body steps s (body.Failed checkout customer reason) is made fit formed run =
    let both = and_not (list_any (is_for checkout customer) (reservations steps)) (is_settled steps checkout) fit in
    let any = any_weaker (is_for checkout customer) (is_of checkout) (for-of checkout customer) (reservations steps) both.0 in
    let none : reservations_of s ≡ [] = ap (λ m. filter_map reservation_in (filter_map (body_on STOCK_TO_ORDER) m)) made in
    let now = λ (key : ProductKey). sold-push-same steps s key none (λ id. ap (confirms id) is) in
    settling steps s (body.Failed checkout customer reason) checkout is (λ id. refl) (λ id. refl) (λ key. refl) none any both.1 (λ key. omega (arith, now key)) (λ key. omega (arith, now key)) run
by_body steps s other is made fit formed run =
    quiet steps s other is (λ id. refl) (λ id. refl) (ap (λ m. filter_map reservation_in (filter_map (body_on STOCK_TO_ORDER) m)) made) (λ key. stocked-push-other steps s key (ap (pieces_in key) is)) run

-- a step that follows keeps it
pub StockRun-keeps : (steps : List Step) (s : Step) → Follows Role.Stock steps s → StockRun steps → StockRun (steps ++ s ∷ [])
StockRun-keeps steps s follows run =
    let parts = fits-parts Role.Stock steps s.from s.body follows.fit in
    by_body steps s s.body refl (follows.made ∙ answers-stock steps s.from s.body) parts.due parts.formed run

-- a run of stock has it
pub StockRun-of : (steps : List Step) → IsRunOf Role.Stock steps → StockRun steps
StockRun-of steps run = run_has Role.Stock StockRun StockRun-keeps (record { once = λ id. omega arith; later = λ id new. refl; within = λ key. omega arith; most = λ key. omega arith }) steps run

-- after a run, no more is reserved than is on hand
pub reserved-le-on_hand : (steps : List Step) → IsRunOf Role.Stock steps → (key : ProductKey) → reserved steps key ≤ on_hand steps key
reserved-le-on_hand steps run key = omega (arith, (StockRun-of steps run).within key)

-- after a run, what is sold and reserved was stocked
pub sold-reserved-le-stocked : (steps : List Step) → IsRunOf Role.Stock steps → (key : ProductKey) → sold steps key + reserved steps key ≤ stocked steps key
sold-reserved-le-stocked steps run key = (StockRun-of steps run).within key

-- after a run, no more is on hand than can be
pub on_hand-le : (steps : List Step) → IsRunOf Role.Stock steps → (key : ProductKey) → on_hand steps key ≤ pieces_max
on_hand-le steps run key = (StockRun-of steps run).most key

-- after a run, a checkout has one reservation at most
pub reserved_once : (steps : List Step) → IsRunOf Role.Stock steps → (id : RequestId) → IsOnce id (reservations steps)
reserved_once steps run id = either (is_taken reserves steps id) ((StockRun-of steps run).once id)
  where
    either : (b : Bool) {n : ℕ} → n ≤ (if b then 1 else 0) → n ≤ 1
    either true h = h
    either false h = omega (arith, h)

-- after a run, a checkout that was not asked for is not settled
pub unasked-unsettled : (steps : List Step) → IsRunOf Role.Stock steps → (id : RequestId) → is_taken reserves steps id ≡ false → is_settled steps id ≡ false
unasked-unsettled steps run id new = (StockRun-of steps run).later id new

-- after a run, a checkout that was not asked for has no reservation
pub unasked-none : (steps : List Step) → IsRunOf Role.Stock steps → (id : RequestId) → is_taken reserves steps id ≡ false → list_any (is_of id) (reservations steps) ≡ false
unasked-none steps run id new = any-none (is_of id) (reservations steps) (rw new at ((StockRun-of steps run).once id))
