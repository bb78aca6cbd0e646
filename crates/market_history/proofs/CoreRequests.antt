-- What one entry more adds to the requests that a lane was given and to the replies, and when a lane waits.
use Rattle.std.proofs.Common.{◌≡◌, Bool, true, false, cond, ◌||◌, is_some, List, [], ◌∷◌, ◌++◌, Option, Some, None, refl, ap, sym, ◌∙◌}
use Rattle.std.specs.Prelude.{find}
use Rattle.std.specs.List.{list_any}
use Rattle.std.specs.Option.{option_to_list, option_or}
use Rattle.std.proofs.lemmas.List.{append-nil}
use Rattle.market_amounts.specs.declared.keys.RequestId.{RequestId}
use Rattle.market_events.specs.declared.events.Entry.{Entry}
use Rattle.market_events.specs.declared.events.What.TheVariants.{Given}
use Rattle.market_events.specs.declared.requests.Request.{Request}
use Rattle.market_events.specs.Requests.{same_id}
use Rattle.market_events.proofs.Values.Same.{same_id-self}
use Rattle.market_events.proofs.Steps.Pieces.{first_some-push}
use Rattle.market_history.specs.Once.{request_in, requests_given, with_id, reply_in, reply_of}
use Rattle.market_history.proofs.SentLaws.{filter_map-push}

-- a request was given
pub requests_given-push-given : (xs : List Entry) (x : Entry) (request : Request) → x.what ≡ Given request → requests_given (xs ++ x ∷ []) ≡ requests_given xs ++ request ∷ []
requests_given-push-given xs x request is =
    filter_map-push (λ (y : Entry). request_in y.what) xs x ∙ ap (λ w. requests_given xs ++ option_to_list (request_in w)) is

-- none was given
pub requests_given-push-none : (xs : List Entry) (x : Entry) → request_in x.what ≡ None → requests_given (xs ++ x ∷ []) ≡ requests_given xs
requests_given-push-none xs x none =
    filter_map-push (λ (y : Entry). request_in y.what) xs x ∙ ap (λ o. requests_given xs ++ option_to_list o) none ∙ append-nil (requests_given xs)

pub reply_of-push : (xs : List Entry) (x : Entry) (id : RequestId) → reply_of (xs ++ x ∷ []) id ≡ option_or (reply_of xs id) (reply_in id x.what)
reply_of-push xs x id = first_some-push (λ (y : Entry). reply_in id y.what) xs x

pub or_none : {A : Type 0} (o : Option A) → option_or o None ≡ o
or_none None = refl
or_none (Some y) = refl

-- no reply to the id
pub reply_of-push-none : (xs : List Entry) (x : Entry) (id : RequestId) → reply_in id x.what ≡ None → reply_of (xs ++ x ∷ []) id ≡ reply_of xs id
reply_of-push-none xs x id none = reply_of-push xs x id ∙ ap (λ o. option_or (reply_of xs id) o) none ∙ or_none (reply_of xs id)

find_push : {A : Type 0} (p : A → Bool) (xs : List A) (y : A) → find p (xs ++ y ∷ []) ≡ option_or (find p xs) (cond (p y) (Some y) None)
find_push p [] y = refl
find_push p (x ∷ xs) y = by_test (p x) (find_push p xs y)
  where
    by_test : (b : Bool) → find p (xs ++ y ∷ []) ≡ option_or (find p xs) (cond (p y) (Some y) None)
        → cond b (Some x) (find p (xs ++ y ∷ [])) ≡ option_or (cond b (Some x) (find p xs)) (cond (p y) (Some y) None)
    by_test true rest = refl
    by_test false rest = rest

-- one request more
pub with_id-push : (id : RequestId) (requests : List Request) (r : Request) → with_id id (requests ++ r ∷ []) ≡ option_or (with_id id requests) (cond (same_id r.id id) (Some r) None)
with_id-push id requests r = find_push (λ (q : Request). same_id q.id id) requests r

-- a request that is found has the id
pub with_id-id : (id : RequestId) (requests : List Request) (r : Request) → with_id id requests ≡ Some r → same_id r.id id ≡ true
with_id-id id [] r found = let no : ⊥ = cc in absurd no
with_id-id id (x ∷ xs) r found = by_test (same_id x.id id) refl found (with_id-id id xs r)
  where
    by_test : (b : Bool) → same_id x.id id ≡ b → cond b (Some x) (with_id id xs) ≡ Some r → (with_id id xs ≡ Some r → same_id r.id id ≡ true) → same_id r.id id ≡ true
    by_test true same here rest = let it : x ≡ r = cc in ap (λ (q : Request). same_id q.id id) (sym it) ∙ same
    by_test false other here rest = rest here

-- where some request passes a test, one that is found by its id does
pub record Passes (p : Request → Bool) (requests : List Request) : Type 0 where
  pub request : Request
  pub passes : p request ≡ true
  pub found : is_some (with_id request.id requests) ≡ true

pub any_passes : (p : Request → Bool) (requests : List Request) → list_any p requests ≡ true → Passes p requests
any_passes p [] some = let no : ⊥ = cc in absurd no
any_passes p (x ∷ xs) some = by_test (p x) refl some (any_passes p xs)
  where
    later : (q : Request) (b : Bool) → is_some (with_id q.id xs) ≡ true → is_some (cond b (Some x) (with_id q.id xs)) ≡ true
    later q true found = refl
    later q false found = found

    by_test : (b : Bool) → p x ≡ b → (b || list_any p xs) ≡ true → (list_any p xs ≡ true → Passes p xs) → Passes p (x ∷ xs)
    by_test true pass some rest = record {
      request = x;
      passes = pass;
      found = ap (λ b. is_some (cond b (Some x) (with_id x.id xs))) (same_id-self x.id);
    }
    by_test false fail some rest =
        let it = rest some in
        record { request = it.request; passes = it.passes; found = later it.request (same_id x.id it.request.id) it.found }

-- a request that is found and passes a test is one that passes
pub found_passes : (p q : Request → Bool) (requests : List Request) (r : Request) → find q requests ≡ Some r → p r ≡ true → list_any p requests ≡ true
found_passes p q [] r found pass = let no : ⊥ = cc in absurd no
found_passes p q (x ∷ xs) r found pass = by_test (q x) found (λ here. found_passes p q xs r here pass)
  where
    or_right : (b c : Bool) → c ≡ true → (b || c) ≡ true
    or_right true c sure = refl
    or_right false c sure = sure

    by_test : (b : Bool) → cond b (Some x) (find q xs) ≡ Some r → (find q xs ≡ Some r → list_any p xs ≡ true) → (p x || list_any p xs) ≡ true
    by_test true here rest = let it : x ≡ r = cc in ap (λ (y : Request). p y || list_any p xs) it ∙ ap (λ b. b || list_any p xs) pass
    by_test false here rest = or_right (p x) (list_any p xs) (rest here)
