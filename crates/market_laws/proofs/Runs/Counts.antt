-- Counts of what was made and of what was taken, over the steps of a run; and the step that made a body.
use Rattle.std.proofs.Common.{◌≡◌, ℕ, ◌+◌, ◌≤◌, Bool, true, false, cond, List, [], ◌∷◌, ◌++◌, map, filter, filter_map, sum_by, count_by, ◌⊎◌, inl, inr, refl, ap, sym, subst, ◌∙◌, arith, eqb-true}
use Rattle.std.specs.List.{list_any}
use Rattle.std.proofs.lemmas.List.{map-append}
use Rattle.std.proofs.lemmas.List.Elements.{filter-append, filter_map-append}
use Rattle.std.proofs.lemmas.List.Sums.{sum_by_push, sum_by-append}
use Rattle.market_amounts.specs.declared.keys.RequestId.{RequestId}
use Rattle.market_events.specs.declared.bodies.Body.{Body}
use Rattle.market_events.specs.declared.bodies.Body.TheVariants as body
use Rattle.market_events.specs.declared.links.Link.{Link}
use Rattle.market_events.specs.declared.links.Link.TheVariants.{Service, Asked, Told}
use Rattle.market_events.specs.Carried.{carries}
use Rattle.market_events.specs.Links.{receiver_of, service_by_ask}
use Rattle.market_events.specs.declared.roles.Role.{Role}
use Rattle.market_events.specs.Services.{node_of, Follows, IsRunOf, role_fits, asks}
use Rattle.market_events.specs.Steps.{Step, Sending, taken_bodies, made_in, body_on}
use Rattle.market_events.proofs.Values.Lists.{count-none}
use Rattle.market_events.proofs.Steps.Taken.{taken_bodies-push, made_in-push, fits-parts, run_has, run-push}
use Rattle.market_laws.specs.Runs.{Member, bodies_made, tells}

-- the link joins two services
abbrev pub IsBetween : Link → Type 0
IsBetween (Service n) = Unit {0}
IsBetween other = ⊥

-- what is made on a link
abbrev pub on : Link → List Sending → List Body
on link made = filter_map (body_on link) made

-- how many bodies on the link pass
abbrev pub count_on : Link → (Body → Bool) → List Sending → ℕ
count_on link test made = count_by test (on link made)

-- how many bodies pass, on whichever link
abbrev pub count_all : (Body → Bool) → List Sending → ℕ
count_all test made = count_by test (map (λ (m : Sending). m.1) made)

-- what respects ++, as the part of what is made that goes on a link
pub record Joining {B : Type 0} (part : List Sending → List B) : Type 0 where
  pub none : part [] ≡ []
  pub joins : (xs ys : List Sending) → part (xs ++ ys) ≡ part xs ++ part ys

pub joining-on : (link : Link) → Joining (on link)
joining-on link = record { none = refl; joins = filter_map-append (body_on link) }

-- those of a kind alone
pub joining-kind : (link : Link) (test : Body → Bool) → Joining (λ made. filter test (on link made))
joining-kind link test = record {
  none = refl;
  joins = λ xs ys. ap (filter test) (filter_map-append (body_on link) xs ys) ∙ filter-append test (on link xs) (on link ys);
}

-- a number that adds up over what is made
pub record Adding (f : List Sending → ℕ) : Type 0 where
  pub none : f [] ≡ 0
  pub joins : (xs ys : List Sending) → f (xs ++ ys) ≡ f xs + f ys

pub adding-on : (link : Link) (test : Body → Bool) → Adding (count_on link test)
adding-on link test = record {
  none = refl;
  joins = λ xs ys. ap (count_by test) (filter_map-append (body_on link) xs ys) ∙ sum_by-append (λ b. cond (test b) 1 0) (on link xs) (on link ys);
}

pub adding-all : (test : Body → Bool) → Adding (count_all test)
adding-all test = record {
  none = refl;
  joins = λ xs ys. ap (count_by test) (map-append (λ (m : Sending). m.1) xs ys) ∙ sum_by-append (λ b. cond (test b) 1 0) (map (λ (m : Sending). m.1) xs) (map (λ (m : Sending). m.1) ys);
}

pub adding-both : {f g : List Sending → ℕ} → Adding f → Adding g → Adding (λ made. f made + g made)
adding-both {f = f} {g = g} a b = record {
  none = omega (arith, a.none, b.none);
  joins = λ xs ys. omega (arith, a.joins xs ys, b.joins xs ys);
}

-- one more step: its body is taken
pub sum_taken-push : (g : Body → ℕ) (steps : List Step) (s : Step) → sum_by g (taken_bodies (steps ++ s ∷ [])) ≡ sum_by g (taken_bodies steps) + g s.body
sum_taken-push g steps s = ap (sum_by g) (taken_bodies-push steps s) ∙ sum_by_push g (taken_bodies steps) s.body

-- one more step: what it makes is made
pub sum_made-push : (f : List Sending → ℕ) → Adding f → (steps : List Step) (s : Step) → f (made_in (steps ++ s ∷ [])) ≡ f (made_in steps) + f s.made
sum_made-push f adding steps s = ap f (made_in-push steps s) ∙ adding.joins (made_in steps) s.made

-- where each step makes no more than it takes, no more is made than taken
pub made-le-taken : (role : Role) (f : List Sending → ℕ) (g : Body → ℕ) → Adding f → ((before : List Step) (s : Step) → Follows role before s → f s.made ≤ g s.body) → (steps : List Step) → IsRunOf role steps → f (made_in steps) ≤ sum_by g (taken_bodies steps)
made-le-taken role f g adding each steps run = run_has role (λ steps. f (made_in steps) ≤ sum_by g (taken_bodies steps)) keeps (omega (arith, adding.none)) steps run
  where
    keeps : (before : List Step) (s : Step) → Follows role before s → f (made_in before) ≤ sum_by g (taken_bodies before) → f (made_in (before ++ s ∷ [])) ≤ sum_by g (taken_bodies (before ++ s ∷ []))
    keeps before s follows few = omega (arith, few, each before s follows, sum_made-push f adding before s, sum_taken-push g before s)

-- where each step makes as much as it takes, as much is made as taken
pub made-is-taken : (role : Role) (f : List Sending → ℕ) (g : Body → ℕ) → Adding f → ((before : List Step) (s : Step) → Follows role before s → f s.made ≡ g s.body) → (steps : List Step) → IsRunOf role steps → f (made_in steps) ≡ sum_by g (taken_bodies steps)
made-is-taken role f g adding each steps run = run_has role (λ steps. f (made_in steps) ≡ sum_by g (taken_bodies steps)) keeps (omega (arith, adding.none)) steps run
  where
    keeps : (before : List Step) (s : Step) → Follows role before s → f (made_in before) ≡ sum_by g (taken_bodies before) → f (made_in (before ++ s ∷ [])) ≡ sum_by g (taken_bodies (before ++ s ∷ []))
    keeps before s follows same = omega (arith, same, each before s follows, sum_made-push f adding before s, sum_taken-push g before s)

-- where each step makes the same of two kinds, the same is made of both
pub same_made : {B : Type 0} (role : Role) (f g : List Sending → List B) → Joining f → Joining g → ((before : List Step) (s : Step) → Follows role before s → f s.made ≡ g s.made) → (steps : List Step) → IsRunOf role steps → f (made_in steps) ≡ g (made_in steps)
same_made {B = B} role f g first second each steps run = run_has role (λ steps. f (made_in steps) ≡ g (made_in steps)) keeps (first.none ∙ sym second.none) steps run
  where
    keeps : (before : List Step) (s : Step) → Follows role before s → f (made_in before) ≡ g (made_in before) → f (made_in (before ++ s ∷ [])) ≡ g (made_in (before ++ s ∷ []))
    keeps before s follows same =
        ap f (made_in-push before s) ∙ first.joins (made_in before) s.made
        ∙ (λ i. same i ++ each before s follows i)
        ∙ sym (ap g (made_in-push before s) ∙ second.joins (made_in before) s.made)

-- a body of a kind that fits only where none of the kind was taken is taken once at most
pub taken_once : (role : Role) (test : Body → Bool) → ((before : List Step) (b : Body) → role_fits role before b ≡ true → test b ≡ true → list_any test (taken_bodies before) ≡ false) → (steps : List Step) → IsRunOf role steps → count_by test (taken_bodies steps) ≤ 1
taken_once role test new steps run = run_has role (λ steps. count_by test (taken_bodies steps) ≤ 1) keeps (omega arith) steps run
  where
    one_more : (before : List Step) (s : Step) → Follows role before s → count_by test (taken_bodies before) ≤ 1 → (b : Bool) → test s.body ≡ b → count_by test (taken_bodies before) + cond b 1 0 ≤ 1
    one_more before s follows few true passes =
        omega (arith, count-none test (taken_bodies before) (new before s.body (fits-parts role before s.from s.body follows.fit).due passes))
    one_more before s follows few false fails = omega (arith, few)

    keeps : (before : List Step) (s : Step) → Follows role before s → count_by test (taken_bodies before) ≤ 1 → count_by test (taken_bodies (before ++ s ∷ [])) ≤ 1
    keeps before s follows few = omega (arith, sum_taken-push (λ b. cond (test b) 1 0) before s, one_more before s follows few (test s.body) refl)

-- two lists of one element that are equal have the same
pub one : {A : Type 0} {x y : A} → x ∷ [] ≡ y ∷ [] → x ≡ y
one e = cc

-- an element of a list stands between two parts of it
pub member-split : {A : Type 0} (x : A) (xs : List A) → Member x xs → (us : List A) × (vs : List A) × (xs ≡ us ++ x ∷ vs)
member-split x [] here = absurd here
member-split x (y ∷ ys) (inl same) = ([], ys, ap (λ z. z ∷ ys) (sym same))
member-split x (y ∷ ys) (inr more) = let rest = member-split x ys more in (y ∷ rest.0, rest.1, ap (λ zs. y ∷ zs) rest.2)

-- an element between two parts
pub member-between : {A : Type 0} (us : List A) (x : A) (vs : List A) → Member x (us ++ x ∷ vs)
member-between [] x vs = inl refl
member-between (u ∷ us) x vs = inr (member-between us x vs)

-- an element of the first part
pub member-left : {A : Type 0} (x : A) (us vs : List A) → Member x us → Member x (us ++ vs)
member-left x [] vs here = absurd here
member-left x (u ∷ us) vs (inl same) = inl same
member-left x (u ∷ us) vs (inr more) = inr (member-left x us vs more)

-- an element of the second part
pub member-right : {A : Type 0} (x : A) (us vs : List A) → Member x vs → Member x (us ++ vs)
member-right x [] vs here = here
member-right x (u ∷ us) vs here = inr (member-right x us vs here)

-- what a step took was taken
pub member-taken : (steps before : List Step) (s : Step) (after : List Step) → steps ≡ before ++ s ∷ after → Member s.body (taken_bodies steps)
member-taken steps before s after is =
    subst (λ bs. Member s.body bs) (sym (ap taken_bodies is ∙ map-append (λ (s : Step). s.body) before (s ∷ after))) (member-between (taken_bodies before) s.body (taken_bodies after))

-- what was taken before was taken
pub member-taken-before : (steps before rest : List Step) (b : Body) → steps ≡ before ++ rest → Member b (taken_bodies before) → Member b (taken_bodies steps)
member-taken-before steps before rest b is here =
    subst (λ bs. Member b bs) (sym (ap taken_bodies is ∙ map-append (λ (s : Step). s.body) before rest)) (member-left b (taken_bodies before) (taken_bodies rest) here)

-- an element of two parts stands in one of them
pub member-either : {A : Type 0} (x : A) (us vs : List A) → Member x (us ++ vs) → Member x us ⊎ Member x vs
member-either x [] vs here = inr here
member-either x (u ∷ us) vs (inl same) = inl (inl same)
member-either x (u ∷ us) vs (inr more) = elim (member-either x us vs more) [ inl first ↦ inl (inr first) | inr second ↦ inr second ]

-- what a filter keeps stood there
pub member-filter : {A : Type 0} (keep : A → Bool) (x : A) (xs : List A) → Member x (filter keep xs) → Member x xs
member-filter keep x [] here = here
member-filter keep x (y ∷ ys) here = either (keep y) here (λ more. member-filter keep x ys more)
  where
    either : (b : Bool) → Member x (cond b (y ∷ filter keep ys) (filter keep ys)) → (Member x (filter keep ys) → Member x ys) → Member x (y ∷ ys)
    either true (inl same) rest = inl same
    either true (inr more) rest = inr (rest more)
    either false more rest = inr (rest more)

-- what holds of no steps, and is kept by each step that follows a run, holds of a run
pub run_with : (role : Role) (P : List Step → Type 0) → ((before : List Step) (s : Step) → IsRunOf role before → Follows role before s → P before → P (before ++ s ∷ [])) → P [] → (steps : List Step) → IsRunOf role steps → P steps
run_with role P keeps start steps run = (run_has role (λ steps. IsRunOf role steps × P steps) (λ before s follows kept. (run-push role before s kept.0 follows, keeps before s kept.0 follows kept.1)) (tt, start) steps run).1

-- a request is for this service
abbrev pub IsHere : Role → Body → Type 0
IsHere role (body.Asked request) = service_by_ask request.ask ≡ node_of role
IsHere role other = Unit {0}

-- a request that a service takes is for it
pub taken_here : (role : Role) (before : List Step) (s : Step) → Follows role before s → IsHere role s.body
taken_here role before s follows = let parts = fits-parts role before s.from s.body follows.fit in by_link s.body s.from parts.received parts.carried
  where
    by_link : (b : Body) (from : Link) → receiver_of from ≡ node_of role → carries from b ≡ true → IsHere role b
    by_link (body.Asked request) (Service n) received carried = cc
    by_link (body.Asked request) (Asked lane service) received carried = eqb-true (service_by_ask request.ask) service carried ∙ received
    by_link (body.Asked request) (Told service lane) received carried = cc
    by_link other from received carried = tt

-- where each step that takes a request for the service tells as much as it is asked, as much is told as asked
pub told-is-asked : (role : Role) (id : RequestId) → ((before : List Step) (s : Step) → Follows role before s → IsHere role s.body → count_all (tells id) s.made ≡ cond (asks id s.body) 1 0)
    → (steps : List Step) → IsRunOf role steps → count_by (tells id) (bodies_made steps) ≡ count_by (asks id) (taken_bodies steps)
told-is-asked role id each = made-is-taken role (count_all (tells id)) (λ b. cond (asks id b) 1 0) (adding-all (tells id)) (λ before s follows. each before s follows (taken_here role before s follows))
