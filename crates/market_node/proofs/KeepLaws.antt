-- What a lane notes of the requests that it keeps, with one entry more.
use Rattle.std.proofs.Common.{◌≡◌, ℕ, ◌+◌, Bool, true, false, cond, ◌&&◌, is_some, is_none, if◌then◌else◌, List, [], ◌∷◌, ◌++◌, Option, Some, None, length, length-append, refl, ap, sym, ◌∙◌, arith}
use Rattle.std.specs.List.{cons_option}
use Rattle.std.specs.Option.{option_or}
use Rattle.market_amounts.specs.declared.keys.RequestId.{RequestId}
use Rattle.market_events.specs.declared.events.Entry.{Entry}
use Rattle.market_events.specs.declared.events.What.{What}
use Rattle.market_events.specs.declared.events.What.TheVariants.{Given, Taken, Made, Answered}
use Rattle.market_events.specs.declared.replies.Reply.{Reply}
use Rattle.market_events.specs.declared.requests.Request.{Request}
use Rattle.market_events.specs.Requests.{same_id}
use Rattle.market_events.specs.Stocks.{first_some}
use Rattle.market_events.proofs.Values.Same.{same_id-true}
use Rattle.market_history.specs.Once.{request_in, requests_given, with_id, reply_in, reply_of}
use Rattle.market_history.proofs.CoreRequests.{requests_given-push-given, requests_given-push-none, reply_of-push, reply_of-push-none, with_id-push, or_none}
use Rattle.market_node.specs.declared.table.Kept.{Kept}
use Rattle.market_node.specs.Keeping.{given_in, place_or, first_place, kept_if, newly_kept, with_answer, is_that, is_awaited, KeepsRequests, places_of_request, request_places_at}

-- places

or_assoc : {B : Type 0} (o : Option B) (p : ℕ) (a b : Option ℕ) → place_or o p (option_or a b) ≡ option_or (place_or o p a) b
or_assoc None p a b = refl
or_assoc (Some y) p a b = refl

first_place-push : {B : Type 0} (f : What → Option B) (start end : ℕ) (xs : List Entry) (x : Entry) → end ≡ start + length xs → first_place f start (xs ++ x ∷ []) ≡ option_or (first_place f start xs) (place_or (f x.what) end None)
first_place-push f start end [] x at = let e : start ≡ end = omega arith in ap (λ p. place_or (f x.what) p None) e
first_place-push f start end (y ∷ ys) x at =
    ap (λ o. place_or (f y.what) start o) (first_place-push f (start + 1) end ys x (omega arith))
    ∙ or_assoc (f y.what) start (first_place f (start + 1) ys) (place_or (f x.what) end None)

first_place-push-none : {B : Type 0} (f : What → Option B) (xs : List Entry) (x : Entry) → f x.what ≡ None → first_place f 0 (xs ++ x ∷ []) ≡ first_place f 0 xs
first_place-push-none f xs x none =
    first_place-push f 0 (length xs) xs x (omega arith) ∙ ap (λ o. option_or (first_place f 0 xs) (place_or o (length xs) None)) none ∙ or_none (first_place f 0 xs)

first_place-push-some : {B : Type 0} (f : What → Option B) (xs : List Entry) (x : Entry) (y : B) → f x.what ≡ Some y → first_place f 0 xs ≡ None → first_place f 0 (xs ++ x ∷ []) ≡ Some (length xs)
first_place-push-some f xs x y some none =
    first_place-push f 0 (length xs) xs x (omega arith)
    ∙ ap (λ o. option_or (first_place f 0 xs) (place_or o (length xs) None)) some
    ∙ ap (λ o. option_or o (Some (length xs))) none

-- the entry at the first place gives what is found first
pub record FoundAt {B : Type 0} (f : What → Option B) (start : ℕ) (xs : List Entry) (place : ℕ) : Type 0 where
  pub before : List Entry
  pub entry : Entry
  pub after : List Entry
  pub value : B
  pub split : xs ≡ before ++ entry ∷ after
  pub there : place ≡ start + length before
  pub gives : f entry.what ≡ Some value
  pub first : first_some (λ (x : Entry). f x.what) xs ≡ Some value

found_at : {B : Type 0} (f : What → Option B) (start : ℕ) (xs : List Entry) (place : ℕ) → first_place f start xs ≡ Some place → FoundAt f start xs place
found_at f start [] place at = let no : ⊥ = cc in absurd no
found_at {B = B} f start (x ∷ xs) place at = by_one (f x.what) refl at (found_at f (start + 1) xs place)
  where
    by_one : (o : Option B) → f x.what ≡ o → place_or o start (first_place f (start + 1) xs) ≡ Some place
        → (first_place f (start + 1) xs ≡ Some place → FoundAt f (start + 1) xs place)
        → FoundAt f start (x ∷ xs) place
    by_one None none here rest =
        let it = rest here in
        record {
          before = x ∷ it.before;
          entry = it.entry;
          after = it.after;
          value = it.value;
          split = ap (λ (l : List Entry). x ∷ l) it.split;
          there = let at = it.there in omega arith;
          gives = it.gives;
          first = ap (λ o. option_or o (first_some (λ (y : Entry). f y.what) xs)) none ∙ it.first;
        }
    by_one (Some y) some here rest = record {
      before = [];
      entry = x;
      after = xs;
      value = y;
      split = refl;
      there = let it : start ≡ place = cc in omega arith;
      gives = some;
      first = ap (λ o. option_or o (first_some (λ (z : Entry). f z.what) xs)) some;
    }

nothing_first : {B : Type 0} (f : What → Option B) (start : ℕ) (xs : List Entry) → first_place f start xs ≡ None → first_some (λ (x : Entry). f x.what) xs ≡ None
nothing_first f start [] none = refl
nothing_first {B = B} f start (x ∷ xs) none = by_one (f x.what) none (nothing_first f (start + 1) xs)
  where
    by_one : (o : Option B) → place_or o start (first_place f (start + 1) xs) ≡ None
        → (first_place f (start + 1) xs ≡ None → first_some (λ (y : Entry). f y.what) xs ≡ None)
        → option_or o (first_some (λ (y : Entry). f y.what) xs) ≡ None
    by_one None here rest = rest here
    by_one (Some y) here rest = let no : ⊥ = cc in absurd no

no_first_place : {B : Type 0} (f : What → Option B) (start : ℕ) (xs : List Entry) → first_some (λ (x : Entry). f x.what) xs ≡ None → first_place f start xs ≡ None
no_first_place f start [] none = refl
no_first_place {B = B} f start (x ∷ xs) none = by_one (f x.what) none (no_first_place f (start + 1) xs)
  where
    by_one : (o : Option B) → option_or o (first_some (λ (y : Entry). f y.what) xs) ≡ None
        → (first_some (λ (y : Entry). f y.what) xs ≡ None → first_place f (start + 1) xs ≡ None)
        → place_or o start (first_place f (start + 1) xs) ≡ None
    by_one None here rest = rest here
    by_one (Some y) here rest = let no : ⊥ = cc in absurd no

-- the request with an id, among the entries
pub with_id-first : (id : RequestId) (xs : List Entry) → with_id id (requests_given xs) ≡ first_some (λ (x : Entry). given_in id x.what) xs
with_id-first id [] = refl
with_id-first id (x ∷ xs) = by_what x.what refl (with_id-first id xs)
  where
    by_test : (r : Request) (b : Bool) → with_id id (requests_given xs) ≡ first_some (λ (y : Entry). given_in id y.what) xs
        → cond b (Some r) (with_id id (requests_given xs)) ≡ option_or (if b then Some r else None) (first_some (λ (y : Entry). given_in id y.what) xs)
    by_test r true rest = refl
    by_test r false rest = rest

    by_what : (w : What) → x.what ≡ w → with_id id (requests_given xs) ≡ first_some (λ (y : Entry). given_in id y.what) xs
        → with_id id (cons_option (request_in x.what) (requests_given xs)) ≡ option_or (given_in id x.what) (first_some (λ (y : Entry). given_in id y.what) xs)
    by_what (Given r) is rest = rw is (by_test r (same_id r.id id) rest)
    by_what (Taken e) is rest = rw is rest
    by_what (Made e) is rest = rw is rest
    by_what (Answered i r) is rest = rw is rest

-- where the request was given, and that it is the one with the id
pub given_at : (id : RequestId) (xs : List Entry) (place : ℕ) → first_place (given_in id) 0 xs ≡ Some place → FoundAt (given_in id) 0 xs place
given_at id xs place at = found_at (given_in id) 0 xs place at

pub answered_at : (id : RequestId) (xs : List Entry) (place : ℕ) → first_place (reply_in id) 0 xs ≡ Some place → FoundAt (reply_in id) 0 xs place
answered_at id xs place at = found_at (reply_in id) 0 xs place at

pub not_given : (id : RequestId) (xs : List Entry) → first_place (given_in id) 0 xs ≡ None → with_id id (requests_given xs) ≡ None
not_given id xs none = with_id-first id xs ∙ nothing_first (given_in id) 0 xs none

pub not_answered : (id : RequestId) (xs : List Entry) → first_place (reply_in id) 0 xs ≡ None → reply_of xs id ≡ None
not_answered id xs none = nothing_first (reply_in id) 0 xs none

-- one entry more

none_of_none : {A : Type 0} (o : Option A) → is_none o ≡ true → o ≡ None
none_of_none None sure = refl
none_of_none (Some x) sure = let no : ⊥ = cc in absurd no

first_none : {A : Type 0} (a b : Option A) → option_or a b ≡ None → a ≡ None
first_none None b none = refl
first_none (Some x) b none = let no : ⊥ = cc in absurd no

-- it neither gave a request nor answered one
pub KeepsRequests-quiet : (xs : List Entry) (x : Entry) (table : List (RequestId × Kept)) (count : ℕ) (waiting : Option RequestId) → KeepsRequests xs table count waiting
    → request_in x.what ≡ None → ((id : RequestId) → given_in id x.what ≡ None) → ((id : RequestId) → reply_in id x.what ≡ None)
    → KeepsRequests (xs ++ x ∷ []) table count waiting
KeepsRequests-quiet xs x table count waiting keeps none ungiven unanswered = record {
  each = λ id.
      keeps.each id
      ∙ ap (λ g. kept_if g (first_place (reply_in id) 0 xs)) (sym (first_place-push-none (given_in id) xs x (ungiven id)))
      ∙ ap (λ a. kept_if (first_place (given_in id) 0 (xs ++ x ∷ [])) a) (sym (first_place-push-none (reply_in id) xs x (unanswered id)));
  counted = keeps.counted ∙ sym (ap (λ (rs : List Request). length rs) same);
  awaited = λ id.
      ap (λ rs. is_some (with_id id rs) && is_none (reply_of (xs ++ x ∷ []) id)) same
      ∙ ap (λ o. is_some (with_id id (requests_given xs)) && is_none o) (reply_of-push-none xs x id (unanswered id))
      ∙ keeps.awaited id;
  answered = λ id absent. reply_of-push-none xs x id (unanswered id) ∙ keeps.answered id (sym (ap (λ rs. with_id id rs) same) ∙ absent);
}
  where
    same : requests_given (xs ++ x ∷ []) ≡ requests_given xs
    same = requests_given-push-none xs x none

-- it gave a request with a new id, where no request waits
pub KeepsRequests-given : (xs : List Entry) (x : Entry) (r : Request) (table after : List (RequestId × Kept)) (count : ℕ) (waiting : Option RequestId) → KeepsRequests xs table count waiting
    → x.what ≡ Given r → with_id r.id (requests_given xs) ≡ None → waiting ≡ None
    → ((other : RequestId) → request_places_at after other ≡ (if same_id r.id other then Some (newly_kept (length xs)) else request_places_at table other))
    → KeepsRequests (xs ++ x ∷ []) after (count + 1) (Some r.id)
KeepsRequests-given xs x r table after count waiting keeps is fresh idle set = record {
  each = λ id. by_each id (same_id r.id id) refl;
  counted = let long = length-append (requests_given xs) (r ∷ []) in ap (λ n. n + 1) keeps.counted ∙ sym (ap (λ (rs : List Request). length rs) pushed ∙ long);
  awaited = λ id. by_awaited id (same_id r.id id) refl;
  answered = λ id absent. unanswered id ∙ keeps.answered id (first_none (with_id id (requests_given xs)) (cond (same_id r.id id) (Some r) None) (sym (with_id-push id (requests_given xs) r) ∙ sym (ap (λ rs. with_id id rs) pushed) ∙ absent));
}
  where
    pushed : requests_given (xs ++ x ∷ []) ≡ requests_given xs ++ r ∷ []
    pushed = requests_given-push-given xs x r is

    unanswered : (id : RequestId) → reply_of (xs ++ x ∷ []) id ≡ reply_of xs id
    unanswered id = reply_of-push-none xs x id (ap (λ w. reply_in id w) is)

    same_answer : (id : RequestId) → first_place (reply_in id) 0 (xs ++ x ∷ []) ≡ first_place (reply_in id) 0 xs
    same_answer id = first_place-push-none (reply_in id) xs x (ap (λ w. reply_in id w) is)

    no_reply : (id : RequestId) → same_id r.id id ≡ true → reply_of xs id ≡ None
    no_reply id same = ap (λ (i : RequestId). reply_of xs i) (sym (same_id-true r.id id same)) ∙ keeps.answered r.id fresh

    absent_at : (id : RequestId) → same_id r.id id ≡ true → with_id id (requests_given xs) ≡ None
    absent_at id same = ap (λ (i : RequestId). with_id i (requests_given xs)) (sym (same_id-true r.id id same)) ∙ fresh

    by_each : (id : RequestId) (b : Bool) → same_id r.id id ≡ b → request_places_at after id ≡ places_of_request (xs ++ x ∷ []) id
    by_each id true same =
        set id
        ∙ ap (λ b. if b then Some (newly_kept (length xs)) else request_places_at table id) same
        ∙ sym (ap (λ g. kept_if g (first_place (reply_in id) 0 (xs ++ x ∷ [])))
        (first_place-push-some (given_in id) xs x r (ap (λ w. given_in id w) is ∙ ap (λ b. if b then Some r else None) same)
        (no_first_place (given_in id) 0 xs (sym (with_id-first id xs) ∙ absent_at id same)))
        ∙ ap (λ a. kept_if (Some (length xs)) a) (same_answer id ∙ no_first_place (reply_in id) 0 xs (no_reply id same)))
    by_each id false other =
        set id
        ∙ ap (λ b. if b then Some (newly_kept (length xs)) else request_places_at table id) other
        ∙ keeps.each id
        ∙ sym (ap (λ g. kept_if g (first_place (reply_in id) 0 (xs ++ x ∷ [])))
        (first_place-push-none (given_in id) xs x (ap (λ w. given_in id w) is ∙ ap (λ b. if b then Some r else None) other))
        ∙ ap (λ a. kept_if (first_place (given_in id) 0 xs) a) (same_answer id))

    by_awaited : (id : RequestId) (b : Bool) → same_id r.id id ≡ b → is_awaited (xs ++ x ∷ []) id ≡ same_id r.id id
    by_awaited id true same =
        ap (λ rs. is_some (with_id id rs) && is_none (reply_of (xs ++ x ∷ []) id)) pushed
        ∙ ap (λ o. is_some o && is_none (reply_of (xs ++ x ∷ []) id)) (with_id-push id (requests_given xs) r)
        ∙ ap (λ o. is_some (option_or o (cond (same_id r.id id) (Some r) None)) && is_none (reply_of (xs ++ x ∷ []) id)) (absent_at id same)
        ∙ ap (λ b. is_some (cond b (Some r) None) && is_none (reply_of (xs ++ x ∷ []) id)) same
        ∙ ap (λ o. is_none o) (unanswered id ∙ no_reply id same)
        ∙ sym same
    by_awaited id false other =
        ap (λ rs. is_some (with_id id rs) && is_none (reply_of (xs ++ x ∷ []) id)) pushed
        ∙ ap (λ o. is_some o && is_none (reply_of (xs ++ x ∷ []) id))
        (with_id-push id (requests_given xs) r ∙ ap (λ b. option_or (with_id id (requests_given xs)) (cond b (Some r) None)) other ∙ or_none (with_id id (requests_given xs)))
        ∙ ap (λ o. is_some (with_id id (requests_given xs)) && is_none o) (unanswered id)
        ∙ keeps.awaited id
        ∙ ap (λ w. is_that w id) idle
        ∙ sym other

answer_set : (g a : Option ℕ) (place : ℕ) → with_answer place (kept_if g a) ≡ kept_if g (Some place)
answer_set None a place = refl
answer_set (Some p) a place = refl

both_parts : (a b : Bool) → (a && b) ≡ true → (a ≡ true) × (b ≡ true)
both_parts true b both = (refl, both)
both_parts false b both = let no : ⊥ = cc in absurd no

and_never : (a : Bool) → (a && false) ≡ false
and_never true = refl
and_never false = refl

-- it answered the request that waits
pub KeepsRequests-answered : (xs : List Entry) (x : Entry) (i : RequestId) (reply : Reply) (table after : List (RequestId × Kept)) (count : ℕ) (waiting : Option RequestId) → KeepsRequests xs table count waiting
    → x.what ≡ Answered i reply → is_awaited xs i ≡ true
    → ((other : RequestId) → request_places_at after other ≡ (if same_id i other then with_answer (length xs) (request_places_at table other) else request_places_at table other))
    → KeepsRequests (xs ++ x ∷ []) after count None
KeepsRequests-answered xs x i reply table after count waiting keeps is awaited set = record {
  each = λ id. by_each id (same_id i id) refl;
  counted = keeps.counted ∙ sym (ap (λ (rs : List Request). length rs) same);
  awaited = λ id. by_awaited id (same_id i id) refl;
  answered = λ id absent. by_answered id (same_id i id) refl (sym (ap (λ rs. with_id id rs) same) ∙ absent);
}
  where
    same : requests_given (xs ++ x ∷ []) ≡ requests_given xs
    same = requests_given-push-none xs x (ap (λ w. request_in w) is)

    parts : (is_some (with_id i (requests_given xs)) ≡ true) × (is_none (reply_of xs i) ≡ true)
    parts = both_parts (is_some (with_id i (requests_given xs))) (is_none (reply_of xs i)) awaited

    same_place : (id : RequestId) → first_place (given_in id) 0 (xs ++ x ∷ []) ≡ first_place (given_in id) 0 xs
    same_place id = first_place-push-none (given_in id) xs x (ap (λ w. given_in id w) is)

    replies : (id : RequestId) (b : Bool) → same_id i id ≡ b → reply_in id x.what ≡ (if b then Some reply else None)
    replies id b test = ap (λ w. reply_in id w) is ∙ ap (λ b. if b then Some reply else None) test

    no_reply : (id : RequestId) → same_id i id ≡ true → reply_of xs id ≡ None
    no_reply id here = ap (λ (j : RequestId). reply_of xs j) (sym (same_id-true i id here)) ∙ none_of_none (reply_of xs i) parts.1

    by_each : (id : RequestId) (b : Bool) → same_id i id ≡ b → request_places_at after id ≡ places_of_request (xs ++ x ∷ []) id
    by_each id true here =
        set id
        ∙ ap (λ b. if b then with_answer (length xs) (request_places_at table id) else request_places_at table id) here
        ∙ ap (λ k. with_answer (length xs) k) (keeps.each id)
        ∙ answer_set (first_place (given_in id) 0 xs) (first_place (reply_in id) 0 xs) (length xs)
        ∙ sym (ap (λ g. kept_if g (first_place (reply_in id) 0 (xs ++ x ∷ []))) (same_place id)
        ∙ ap (λ a. kept_if (first_place (given_in id) 0 xs) a)
        (first_place-push-some (reply_in id) xs x reply (replies id true here) (no_first_place (reply_in id) 0 xs (no_reply id here))))
    by_each id false other =
        set id
        ∙ ap (λ b. if b then with_answer (length xs) (request_places_at table id) else request_places_at table id) other
        ∙ keeps.each id
        ∙ sym (ap (λ g. kept_if g (first_place (reply_in id) 0 (xs ++ x ∷ []))) (same_place id)
        ∙ ap (λ a. kept_if (first_place (given_in id) 0 xs) a) (first_place-push-none (reply_in id) xs x (replies id false other)))

    -- the request that is answered is the one that waited
    waits : (w : Option RequestId) → is_that w i ≡ true → (id : RequestId) → same_id i id ≡ false → is_that w id ≡ false
    waits None that id other = let no : ⊥ = cc in absurd no
    waits (Some w) that id other = ap (λ (j : RequestId). same_id j id) (same_id-true w i that) ∙ other

    by_awaited : (id : RequestId) (b : Bool) → same_id i id ≡ b → is_awaited (xs ++ x ∷ []) id ≡ false
    by_awaited id true here =
        ap (λ o. is_some (with_id id (requests_given (xs ++ x ∷ []))) && is_none o)
        (reply_of-push xs x id ∙ ap (λ o. option_or o (reply_in id x.what)) (no_reply id here) ∙ replies id true here)
        ∙ and_never (is_some (with_id id (requests_given (xs ++ x ∷ []))))
    by_awaited id false other =
        ap (λ rs. is_some (with_id id rs) && is_none (reply_of (xs ++ x ∷ []) id)) same
        ∙ ap (λ o. is_some (with_id id (requests_given xs)) && is_none o) (reply_of-push-none xs x id (replies id false other))
        ∙ keeps.awaited id
        ∙ waits waiting (sym (keeps.awaited i) ∙ awaited) id other

    by_answered : (id : RequestId) (b : Bool) → same_id i id ≡ b → with_id id (requests_given xs) ≡ None → reply_of (xs ++ x ∷ []) id ≡ None
    by_answered id true here absent =
        let given : is_some (with_id id (requests_given xs)) ≡ true = ap (λ (j : RequestId). is_some (with_id j (requests_given xs))) (sym (same_id-true i id here)) ∙ parts.0 in
        let wrong : false ≡ true = sym (ap (λ o. is_some o) absent) ∙ given in
        let no : ⊥ = cc in absurd no
    by_answered id false other absent = reply_of-push-none xs x id (replies id false other) ∙ keeps.answered id absent
