-- What a lane keeps, and what is in its queue: in a turn these two together stay the same requests, each once.
use Rattle.std.proofs.Common.{◌≡◌, ℕ, zero, suc, ◌≤◌, Bool, true, false, ◌&&◌, ◌||◌, nat_lt, if◌then◌else◌, List, [], ◌∷◌, ◌++◌, Option, Some, None, is_some, is_none, length, take, refl, ap, subst, sym, ◌∙◌, arith}
use Rattle.std.specs.Option.{option_to_list}
use Rattle.std.proofs.lemmas.Bool.Decides.{nat_tests}
use Rattle.std.proofs.lemmas.List.{append-nil, append_assoc, take_all}
use Rattle.market_amounts.specs.declared.keys.RequestId.{RequestId}
use Rattle.market_events.specs.declared.events.Entry.{Entry}
use Rattle.market_events.specs.declared.events.Event.{Event}
use Rattle.market_events.specs.declared.events.Offer.{Offer}
use Rattle.market_events.specs.declared.events.Offer.TheVariants as offer
use Rattle.market_events.specs.declared.replies.Reply.{Reply}
use Rattle.market_events.specs.declared.requests.Request.{Request}
use Rattle.market_events.specs.Offers.{offer_of}
use Rattle.market_events.specs.Requests.{same_id}
use Rattle.market_events.proofs.Values.Same.{same_id-true}
use Rattle.market_history.specs.declared.schedule.Give.{Give}
use Rattle.market_history.specs.declared.schedule.Give.TheVariants as give
use Rattle.market_history.specs.Blocks.{Arrival, what_of, grow}
use Rattle.market_history.specs.Causality.{events_taken}
use Rattle.market_history.specs.Lawful.{IsReadyAfter}
use Rattle.market_history.specs.Once.{most_kept, request_in, requests_given, with_id, has_id, reply_of, is_waiting, differs, give_of, once_after}
use Rattle.market_history.proofs.GrowLaws.{requests_given-grow}
use Rattle.market_laws.specs.Grown.{Grown, nothing, more}
use Rattle.market_laws.specs.Runs.{Member}
use Rattle.market_laws.proofs.Bounds.Journals.{grown-few}
use Rattle.market_laws.proofs.Origins.Cuts.{any_of_member, member_of_any}
use Rattle.market_node.specs.Offered.{by_offer, with_offered, with_all_offered}
use Rattle.market_turns.specs.Queues.{asked_by, with_queue, left_by, queue_after}

-- the ids of requests and of one more
has_id-push : (requests : List Request) (r : Request) (id : RequestId) → has_id (requests ++ r ∷ []) id ≡ (has_id requests id || same_id r.id id)
has_id-push [] r id = or_none (same_id r.id id)
  where
    or_none : (b : Bool) → (b || false) ≡ b
    or_none true = refl
    or_none false = refl
has_id-push (x ∷ xs) r id = by_test (same_id x.id id) (has_id-push xs r id)
  where
    by_test : (b : Bool) → has_id (xs ++ r ∷ []) id ≡ (has_id xs id || same_id r.id id) → (b || has_id (xs ++ r ∷ []) id) ≡ ((b || has_id xs id) || same_id r.id id)
    by_test true rest = refl
    by_test false rest = rest

-- a request whose id occurs earlier adds no id
has_id-again : (requests : List Request) (r : Request) → has_id requests r.id ≡ true → (id : RequestId) → has_id (requests ++ r ∷ []) id ≡ has_id requests id
has_id-again requests r here id = has_id-push requests r id ∙ by_test (same_id r.id id) refl
  where
    by_test : (b : Bool) → same_id r.id id ≡ b → (has_id requests id || b) ≡ has_id requests id
    by_test true same = let there : has_id requests id ≡ true = subst (λ i. has_id requests i ≡ true) (same_id-true r.id id same) here in ap (λ c. c || true) there ∙ sym there
    by_test false differs = or_none (has_id requests id)
      where
        or_none : (b : Bool) → (b || false) ≡ b
        or_none true = refl
        or_none false = refl

-- with the same ids before them the same requests are left
once-same : (front back : List Request) → ((id : RequestId) → has_id front id ≡ has_id back id) → (requests : List Request) → once_after front requests ≡ once_after back requests
once-same front back same [] = refl
once-same front back same (r ∷ rs) =
    ap (λ b. if b then once_after (front ++ r ∷ []) rs else r ∷ once_after (front ++ r ∷ []) rs) (same r.id)
    ∙ ap (λ l. if has_id back r.id then l else r ∷ l) (once-same (front ++ r ∷ []) (back ++ r ∷ []) (λ id. has_id-push front r id ∙ ap (λ b. b || same_id r.id id) (same id) ∙ sym (has_id-push back r id)) rs)

-- one request before those of one list, and then those of another
once-one : (front : List Request) (x : Request) (xs ys : List Request) → once_after (front ++ x ∷ []) (xs ++ ys) ≡ once_after (front ++ x ∷ []) xs ++ once_after (front ++ x ∷ xs) ys
    → once_after front (x ∷ xs ++ ys) ≡ once_after front (x ∷ xs) ++ once_after (front ++ x ∷ xs) ys
once-one front x xs ys rest = by_test (has_id front x.id)
  where
    by_test : (b : Bool) → (if b then once_after (front ++ x ∷ []) (xs ++ ys) else x ∷ once_after (front ++ x ∷ []) (xs ++ ys))
        ≡ (if b then once_after (front ++ x ∷ []) xs else x ∷ once_after (front ++ x ∷ []) xs) ++ once_after (front ++ x ∷ xs) ys
    by_test true = rest
    by_test false = ap (λ l. x ∷ l) rest

-- those of one list, and then those of another
once-append : (front xs ys : List Request) → once_after front (xs ++ ys) ≡ once_after front xs ++ once_after (front ++ xs) ys
once-append front [] ys = ap (λ l. once_after l ys) (sym (append-nil front))
once-append front (x ∷ xs) ys =
    once-one front x xs ys (once-append (front ++ x ∷ []) xs ys ∙ ap (λ l. once_after (front ++ x ∷ []) xs ++ once_after l ys) (append_assoc front (x ∷ []) xs))

-- a request whose id is kept is passed over
once-passes : (kept : List Request) (r : Request) (rs : List Request) → has_id kept r.id ≡ true → once_after [] (kept ++ r ∷ rs) ≡ once_after [] (kept ++ rs)
once-passes kept r rs here =
    once-append [] kept (r ∷ rs)
    ∙ ap (λ b. once_after [] kept ++ (if b then once_after (kept ++ r ∷ []) rs else r ∷ once_after (kept ++ r ∷ []) rs)) here
    ∙ ap (λ l. once_after [] kept ++ l) (once-same (kept ++ r ∷ []) kept (has_id-again kept r here) rs)
    ∙ sym (once-append [] kept rs)

-- a front as long as this
take_front : {A : Type 0} (n : ℕ) (xs ys : List A) → n ≤ length xs → take n (xs ++ ys) ≡ take n xs
take_front zero xs ys few = refl
take_front (suc n) [] ys few = absurd (omega arith)
take_front (suc n) (x ∷ xs) ys few = ap (λ l. x ∷ l) (take_front n xs ys (omega arith))

once-full : (kept rest : List Request) → once_after [] kept ≡ kept → most_kept ≤ length kept → take most_kept (once_after [] (kept ++ rest)) ≡ take most_kept kept
once-full kept rest distinct full =
    ap (take most_kept) (once-append [] kept rest ∙ ap (λ l. l ++ once_after kept rest) distinct) ∙ take_front most_kept kept (once_after kept rest) full

-- what is found is there
found_id : (id : RequestId) (requests : List Request) → is_some (with_id id requests) ≡ true → has_id requests id ≡ true
found_id id [] never = never
found_id id (x ∷ xs) there = by_test (same_id x.id id) (found_id id xs) there
  where
    by_test : (b : Bool) → (is_some (with_id id xs) ≡ true → has_id xs id ≡ true) → is_some (if b then Some x else with_id id xs) ≡ true → (b || has_id xs id) ≡ true
    by_test true rest there = refl
    by_test false rest there = rest there

there_id : (id : RequestId) (requests : List Request) → has_id requests id ≡ true → is_some (with_id id requests) ≡ true
there_id id [] never = never
there_id id (x ∷ xs) there = by_test (same_id x.id id) (there_id id xs) there
  where
    by_test : (b : Bool) → (has_id xs id ≡ true → is_some (with_id id xs) ≡ true) → (b || has_id xs id) ≡ true → is_some (if b then Some x else with_id id xs) ≡ true
    by_test true rest there = refl
    by_test false rest there = rest there

differs_from_some : (kept : Option Request) (r : Request) → differs kept r ≡ true → is_some kept ≡ true
differs_from_some None r never = never
differs_from_some (Some k) r is = refl

-- what each answer of a lane says of the request
module _ (entries : List Entry) (r : Request) where
  abbrev kept_there : Option Request
  kept_there = with_id r.id (requests_given entries)

  abbrev judged : Bool → Bool → Bool → Bool → Give
  judged different known waiting room =
      if different then give.Differs else if known then give.Kept else if waiting then give.Waiting else if room then give.Asked else give.Full

  some_of_both : (a b : Bool) → (a && b) ≡ true → a ≡ true
  some_of_both true b is = refl
  some_of_both false b is = is

  pub kept-has : give_of entries r ≡ give.Kept → has_id (requests_given entries) r.id ≡ true
  kept-has is =
      found_id r.id (requests_given entries)
      (some_of_both (is_some kept_there) (is_some (reply_of entries r.id)) (by (differs kept_there r) (is_some kept_there && is_some (reply_of entries r.id)) (is_waiting entries) (nat_lt (length (requests_given entries)) most_kept) is))
    where
      by : (different known waiting room : Bool) → judged different known waiting room ≡ give.Kept → known ≡ true
      by true known waiting room e = let no : ⊥ = cc in absurd no
      by false true waiting room e = refl
      by false false true room e = let no : ⊥ = cc in absurd no
      by false false false true e = let no : ⊥ = cc in absurd no
      by false false false false e = let no : ⊥ = cc in absurd no

  pub differs-has : give_of entries r ≡ give.Differs → has_id (requests_given entries) r.id ≡ true
  differs-has is =
      found_id r.id (requests_given entries)
      (differs_from_some kept_there r (by (differs kept_there r) (is_some kept_there && is_some (reply_of entries r.id)) (is_waiting entries) (nat_lt (length (requests_given entries)) most_kept) is))
    where
      by : (different known waiting room : Bool) → judged different known waiting room ≡ give.Differs → different ≡ true
      by true known waiting room e = refl
      by false true waiting room e = let no : ⊥ = cc in absurd no
      by false false true room e = let no : ⊥ = cc in absurd no
      by false false false true e = let no : ⊥ = cc in absurd no
      by false false false false e = let no : ⊥ = cc in absurd no

  pub full-has : give_of entries r ≡ give.Full → most_kept ≤ length (requests_given entries)
  full-has is =
      let no_room = by (differs kept_there r) (is_some kept_there && is_some (reply_of entries r.id)) (is_waiting entries) (nat_lt (length (requests_given entries)) most_kept) is in
      grind (arith, nat_tests)
    where
      by : (different known waiting room : Bool) → judged different known waiting room ≡ give.Full → room ≡ false
      by true known waiting room e = let no : ⊥ = cc in absurd no
      by false true waiting room e = let no : ⊥ = cc in absurd no
      by false false true room e = let no : ⊥ = cc in absurd no
      by false false false true e = let no : ⊥ = cc in absurd no
      by false false false false e = refl

  -- a request that is asked is new
  pub record IsFresh : Type 0 where
    pub unknown : (is_some kept_there && is_some (reply_of entries r.id)) ≡ false
    pub free : is_waiting entries ≡ false

  asked-fresh : give_of entries r ≡ give.Asked → IsFresh
  asked-fresh is = by (differs kept_there r) (is_some kept_there && is_some (reply_of entries r.id)) refl (is_waiting entries) refl (nat_lt (length (requests_given entries)) most_kept) is
    where
      by : (different known : Bool) → (is_some kept_there && is_some (reply_of entries r.id)) ≡ known → (waiting : Bool) → is_waiting entries ≡ waiting → (room : Bool) → judged different known waiting room ≡ give.Asked → IsFresh
      by true known k waiting w room e = let no : ⊥ = cc in absurd no
      by false true k waiting w room e = let no : ⊥ = cc in absurd no
      by false false k true w room e = let no : ⊥ = cc in absurd no
      by false false k false w true e = record { unknown = k; free = w }
      by false false k false w false e = let no : ⊥ = cc in absurd no

  pub asked-new : give_of entries r ≡ give.Asked → has_id (requests_given entries) r.id ≡ false
  asked-new is = by_test (has_id (requests_given entries) r.id) refl
    where
      fresh : IsFresh
      fresh = asked-fresh is

      -- a kept request with this id has a reply, since the lane does not wait
      replied : (id : RequestId) → has_id (requests_given entries) id ≡ true → is_some (reply_of entries id) ≡ true
      replied id here = by_reply (reply_of entries id) refl
        where
          found : (k : Request) × Member k (requests_given entries) × (same_id k.id id ≡ true)
          found = member_of_any (λ (q : Request). same_id q.id id) (requests_given entries) here

          by_reply : (o : Option Reply) → reply_of entries id ≡ o → is_some o ≡ true
          by_reply (Some reply) there = refl
          by_reply None missing =
              let same : found.0.id ≡ id = same_id-true found.0.id id found.2 in
              let none : is_none (reply_of entries found.0.id) ≡ true = ap (λ i. is_none (reply_of entries i)) same ∙ ap (λ o. is_none o) missing in
              let waits : is_waiting entries ≡ true = any_of_member (λ (q : Request). is_none (reply_of entries q.id)) found.0 (requests_given entries) found.1 none in
              let free = fresh.free in
              let no : ⊥ = cc in absurd no

      by_test : (b : Bool) → has_id (requests_given entries) r.id ≡ b → b ≡ false
      by_test false none = refl
      by_test true here =
          let both : (is_some kept_there && is_some (reply_of entries r.id)) ≡ true =
          ap (λ b. b && is_some (reply_of entries r.id)) (there_id r.id (requests_given entries) here) ∙ replied r.id here in
          let unknown = fresh.unknown in
          let no : ⊥ = cc in absurd no

-- what is kept is the requests, each once
pub grown-distinct : (n : ℕ) {j : List Entry} → Grown n j → once_after [] (requests_given j) ≡ requests_given j
grown-distinct n nothing = refl
grown-distinct n (more j a grown ready) = by a ready (requests_given-grow n j a) (grown-distinct n grown)
  where
    by : (b : Arrival) → IsReadyAfter n j (what_of b) → requests_given (grow n j a) ≡ requests_given j ++ option_to_list (request_in (what_of b)) → once_after [] (requests_given j) ≡ requests_given j
        → once_after [] (requests_given (grow n j a)) ≡ requests_given (grow n j a)
    by (Arrival.Takes event) ok given distinct =
        let same : requests_given (grow n j a) ≡ requests_given j = given ∙ append-nil (requests_given j) in
        ap (once_after []) same ∙ distinct ∙ sym same
    by (Arrival.Gives request) ok given distinct =
        ap (once_after []) given
        ∙ once-append [] (requests_given j) (request ∷ [])
        ∙ ap (λ l. l ++ once_after (requests_given j) (request ∷ [])) distinct
        ∙ ap (λ b. requests_given j ++ (if b then [] else request ∷ [])) (asked-new j request ok.2)
        ∙ sym given

-- offers give nothing to a lane
pub offers_give_none : (n : ℕ) (entries : List Entry) (events : List Event) → requests_given (with_all_offered n entries events) ≡ requests_given entries
offers_give_none n entries [] = refl
offers_give_none n entries (e ∷ es) = offers_give_none n (with_offered n entries e) es ∙ by_one (offer_of n (events_taken entries) e)
  where
    by_one : (o : Offer) → requests_given (by_offer n entries e o) ≡ requests_given entries
    by_one offer.Take = requests_given-grow n entries (Arrival.Takes e) ∙ append-nil (requests_given entries)
    by_one offer.Old = refl
    by_one offer.Ahead = refl
    by_one offer.NotReady = refl

-- what a lane keeps and what is in its queue, each once, as many as it can keep
abbrev pub due : List Request → List Request → List Request
due kept queue = take most_kept (once_after [] (kept ++ queue))

-- going through the queue leaves what is due as it is
pub queue_keeps_due : (n : ℕ) (entries : List Entry) (queue : List Request) → once_after [] (requests_given entries) ≡ requests_given entries
    → due (requests_given (with_queue n entries queue)) (queue_after entries queue) ≡ due (requests_given entries) queue
queue_keeps_due n entries [] distinct = refl
queue_keeps_due n entries (r ∷ rs) distinct = by_give (give_of entries r) refl (queue_keeps_due n entries rs distinct)
  where
    by_give : (g : Give) → give_of entries r ≡ g → due (requests_given (with_queue n entries rs)) (queue_after entries rs) ≡ due (requests_given entries) rs
        → due (requests_given (asked_by g n entries r (with_queue n entries rs))) (left_by g r rs (queue_after entries rs)) ≡ due (requests_given entries) (r ∷ rs)
    by_give give.Asked is rest =
        ap (λ l. due l rs) (requests_given-grow n entries (Arrival.Gives r)) ∙ ap (λ l. take most_kept (once_after [] l)) (append_assoc (requests_given entries) (r ∷ []) rs)
    by_give give.Waiting is rest = refl
    by_give give.Kept is rest = rest ∙ ap (take most_kept) (sym (once-passes (requests_given entries) r rs (kept-has entries r is)))
    by_give give.Differs is rest = rest ∙ ap (take most_kept) (sym (once-passes (requests_given entries) r rs (differs-has entries r is)))
    by_give give.Full is rest =
        let full = full-has entries r is in
        rest ∙ once-full (requests_given entries) rs distinct full ∙ sym (once-full (requests_given entries) (r ∷ rs) distinct full)

-- and so does a turn of a lane
pub turn_keeps_due : (n : ℕ) (entries : List Entry) (events : List Event) (queue : List Request) → once_after [] (requests_given entries) ≡ requests_given entries
    → due (requests_given (with_queue n (with_all_offered n entries events) queue)) (queue_after (with_all_offered n entries events) queue) ≡ due (requests_given entries) queue
turn_keeps_due n entries events queue distinct =
    let none = offers_give_none n entries events in
    queue_keeps_due n (with_all_offered n entries events) queue (ap (once_after []) none ∙ distinct ∙ sym none) ∙ ap (λ l. due l queue) none

-- where the queue is empty, what is due is what is kept
pub due_kept : (n : ℕ) {j : List Entry} → Grown n j → due (requests_given j) [] ≡ requests_given j
due_kept n {j = j} grown =
    ap (λ l. take most_kept (once_after [] l)) (append-nil (requests_given j))
    ∙ ap (take most_kept) (grown-distinct n grown)
    ∙ take_all most_kept (requests_given j) (grown-few n grown)
