-- The entries of a seller are those of the invoices that were taken (entries-invoiced); each has a status, the one that is due
-- (entry-due). Of lines of rising keys each is once among them (keys-once), so an invoice adds one entry of it (count-marked).
use Rattle.std.proofs.Common.{◌≡◌, ℕ, ◌≤◌, ◌==◌, Bool, true, false, cond, List, [], ◌∷◌, ◌++◌, Option, Some, None, is_some, map, if◌then◌else◌, count_by, inl, inr, refl, ap, sym, ◌∙◌, subst, arith}
use Rattle.std.specs.List.{AllByRecursion, flat_map}
use Rattle.std.specs.Option.{option_or}
use Rattle.std.proofs.lemmas.Bool.Decides.{nat_tests}
use Rattle.std.proofs.lemmas.List.Sums.{sum_by-cons}
use Rattle.market_amounts.specs.declared.keys.ProductKey.{ProductKey}
use Rattle.market_amounts.specs.declared.keys.RequestId.{RequestId}
use Rattle.market_events.specs.declared.bodies.Body.{Body}
use Rattle.market_events.specs.declared.bodies.Body.TheVariants as body
use Rattle.market_events.specs.declared.bodies.PricedLine.{PricedLine}
use Rattle.market_events.specs.declared.replies.OrderStatus.{OrderStatus}
use Rattle.market_events.specs.declared.replies.OrderStatus.TheVariants as status
use Rattle.market_events.specs.Copies.{last_some}
use Rattle.market_events.specs.Requests.{same_key}
use Rattle.market_events.specs.Sellers.{SellerChange, changes_after, changes_by, entries_at, is_invoiced, marked, same_entry, seller_changes, status_at}
use Rattle.market_events.specs.declared.roles.Role.{Role}
use Rattle.market_events.specs.Services.{IsRunOf}
use Rattle.market_events.specs.Steps.{Step}
use Rattle.market_events.specs.WellFormed.{key_below, keys_rise}
use Rattle.market_events.proofs.Values.Lists.{and_both}
use Rattle.market_events.proofs.Values.Same.{same_id-self, same_key-true, same_key-self, same_key-swap}
use Rattle.market_events.proofs.Steps.SellerChanges.{entries_at-append, entries_at-changes_by, entries_at-marked, lines_of_seller, with_status}
use Rattle.market_events.proofs.Runs.Stock.{key_below-apart, key_below-trans, keys_rise-tail}
use Rattle.market_history.specs.Checkouts.{entry_for}
use Rattle.market_laws.specs.Runs.{Member}
use Rattle.market_laws.proofs.Runs.Counts.{member-filter, member-left, member-right}
use Rattle.market_laws.proofs.Runs.SellerStatuses.{HasDue, due, statuses-due}
use Rattle.market_laws.proofs.Settled.Ways.{counted}

-- the entries that a body adds
abbrev pub entries_in : ℕ → Body → List SellerChange
entries_in seller (body.Invoice checkout customer lines total) = marked seller checkout status.Invoiced lines
entries_in seller other = []

entries_by : (seller : ℕ) (before : List Body) (b : Body) → entries_at (changes_by seller before b) ≡ entries_in seller b
entries_by seller before (body.Invoice checkout customer lines total) = entries_at-marked seller checkout lines
entries_by seller before other = entries_at-changes_by seller before other refl

pub entries-invoiced : (seller : ℕ) (before bs : List Body) → entries_at (changes_after seller before bs) ≡ flat_map (entries_in seller) bs
entries-invoiced seller before [] = refl
entries-invoiced seller before (b ∷ bs) =
    entries_at-append (changes_by seller before b) (changes_after seller (before ++ b ∷ []) bs)
    ∙ (λ i. entries_by seller before b i ++ entries-invoiced seller (before ++ b ∷ []) bs i)

-- a member of joined lists is one of some of them
pub joined-member : {A B : Type 0} (f : A → List B) (x : A) (y : B) (xs : List A) → Member x xs → Member y (f x) → Member y (flat_map f xs)
joined-member f x y [] here inner = absurd here
joined-member f x y (z ∷ zs) (inl same) inner = member-left y (f z) (flat_map f zs) (subst (λ w. Member y (f w)) same inner)
joined-member f x y (z ∷ zs) (inr later) inner = member-right y (f z) (flat_map f zs) (joined-member f x y zs later inner)

-- where a member gives something, there is a last
last-given : {A B : Type 0} (f : A → Option B) (x : A) (xs : List A) → Member x xs → is_some (f x) ≡ true → is_some (last_some f xs) ≡ true
last-given f x [] here some = absurd here
last-given f x (y ∷ ys) (inl same) some = by (last_some f ys) (f y) (ap (λ z. is_some (f z)) (sym same) ∙ some)
  where
    by : {B : Type 0} (o p : Option B) → is_some p ≡ true → is_some (option_or o p) ≡ true
    by None p given = given
    by (Some z) p given = refl
last-given f x (y ∷ ys) (inr later) some = by (last_some f ys) (f y) (last-given f x ys later some)
  where
    by : {B : Type 0} (o p : Option B) → is_some o ≡ true → is_some (option_or o p) ≡ true
    by None p given = cc
    by (Some z) p given = refl

-- an entry has a status
status-some : (changes : List SellerChange) (e : SellerChange) → Member e (entries_at changes) → is_some (status_at changes e) ≡ true
status-some changes e here =
    last-given (λ (c : SellerChange). if same_entry c e then Some c.status else None) e changes (member-filter is_invoiced e changes here)
    (let self : same_entry e e ≡ true = rw (same_id-self e.checkout, same_key-self e.line.key) in rw self refl)

-- where all mapped elements have it, each does
mapped-one : {A B : Type 0} (P : B → Type 0) (f : A → B) (x : A) (xs : List A) → AllByRecursion P (map f xs) → Member x xs → P (f x)
mapped-one P f x [] all here = absurd here
mapped-one P f x (y ∷ ys) all (inl same) = subst (λ z. P (f z)) (sym same) all.0
mapped-one P f x (y ∷ ys) all (inr later) = mapped-one P f x ys all.1 later

-- after a run the status of an entry is the one that is due
pub entry-due : (steps : List Step) → IsRunOf Role.Seller steps → (seller : ℕ) (e : SellerChange) → Member e (entries_at (seller_changes steps seller)) → status_at (seller_changes steps seller) e ≡ Some (due steps e.checkout e.line.key)
entry-due steps run seller e here =
    let changes = seller_changes steps seller in
    by (status_at changes e) (status-some changes e here)
    (mapped-one (HasDue steps) (λ (x : SellerChange). with_status x (status_at changes x)) e (entries_at changes) (statuses-due steps run seller) here)
  where
    by : (o : Option OrderStatus) → is_some o ≡ true → HasDue steps (with_status e o) → o ≡ Some (due steps e.checkout e.line.key)
    by None some has = cc
    by (Some st) some has = ap Some has

-- lines of rising keys have none of a key below the first
above_none : (key : ProductKey) (line : PricedLine) (more : List PricedLine) → key_below key line.key ≡ true → keys_rise (line ∷ more) ≡ true → count_by (λ (l : PricedLine). same_key key l.key) (line ∷ more) ≡ 0
above_none key line [] below rise = rw (same_key-swap key line.key ∙ key_below-apart key line.key below) refl
above_none key line (next ∷ more) below rise =
    let both = and_both (key_below line.key next.key) (keys_rise (next ∷ more)) rise in
    let rest = above_none key next more (key_below-trans key line.key next.key below both.0) both.1 in
    let none : ◌≡◌ {A = ℕ} (cond (same_key key line.key) 1 0) 0 = rw (same_key-swap key line.key ∙ key_below-apart key line.key below) refl in
    omega (arith, rest, none, sum_by-cons (λ (l : PricedLine). cond (same_key key l.key) 1 0) line (next ∷ more))

-- and one of each key at most
keys_few : (key : ProductKey) (lines : List PricedLine) → keys_rise lines ≡ true → count_by (λ (l : PricedLine). same_key key l.key) lines ≤ 1
keys_few key [] rise = omega arith
keys_few key (line ∷ more) rise = by (same_key key line.key) refl (keys_few key more (keys_rise-tail line more rise)) more rise
  where
    none : (rest : List PricedLine) → keys_rise (line ∷ rest) ≡ true → key ≡ line.key → count_by (λ (l : PricedLine). same_key key l.key) rest ≡ 0
    none [] rise same = refl
    none (next ∷ rest) rise same =
        let both = and_both (key_below line.key next.key) (keys_rise (next ∷ rest)) rise in
        above_none key next rest (subst (λ k. key_below k next.key ≡ true) (sym same) both.0) both.1

    by : (b : Bool) → same_key key line.key ≡ b → count_by (λ (l : PricedLine). same_key key l.key) more ≤ 1 → (rest : List PricedLine) → keys_rise (line ∷ more) ≡ true → count_by (λ (l : PricedLine). same_key key l.key) (line ∷ more) ≤ 1
    by true is few rest rise =
        let zero = none more rise (same_key-true key line.key is) in
        let one : cond (same_key key line.key) 1 0 ≤ 1 = rw is (omega arith) in
        omega (arith, zero, one, sum_by-cons (λ (l : PricedLine). cond (same_key key l.key) 1 0) line more)
    by false is few rest rise =
        let zero : ◌≡◌ {A = ℕ} (cond (same_key key line.key) 1 0) 0 = rw is refl in
        omega (arith, few, zero, sum_by-cons (λ (l : PricedLine). cond (same_key key l.key) 1 0) line more)

pub keys-once : (line : PricedLine) (lines : List PricedLine) → keys_rise lines ≡ true → Member line lines → count_by (λ (l : PricedLine). same_key line.key l.key) lines ≡ 1
keys-once line lines rise here =
    omega (arith, keys_few line.key lines rise, counted (λ (l : PricedLine). same_key line.key l.key) line lines here (same_key-self line.key))

-- an invoice adds as many entries of a line of the seller as it has lines with its key
pub count-marked : (c : RequestId) (line : PricedLine) (seller : ℕ) → line.key.seller ≡ seller → (lines : List PricedLine) → count_by (same_entry (entry_for c line)) (marked seller c status.Invoiced lines) ≡ count_by (λ (l : PricedLine). same_key line.key l.key) lines
count-marked c line seller own [] = refl
count-marked c line seller own (l ∷ lines) = by (l.key.seller == seller) refl (count-marked c line seller own lines)
  where
    differs : (x : ℕ) → line.key.seller ≡ seller → (x == seller) ≡ false → (line.key.seller == x) ≡ false
    differs x own other = grind (arith, nat_tests)

    by : (b : Bool) → (l.key.seller == seller) ≡ b → count_by (same_entry (entry_for c line)) (marked seller c status.Invoiced lines) ≡ count_by (λ (l : PricedLine). same_key line.key l.key) lines
        → count_by (same_entry (entry_for c line)) (map (λ (l : PricedLine). record { checkout = c; line = l; status = status.Invoiced }) (if b then l ∷ lines_of_seller seller lines else lines_of_seller seller lines)) ≡ count_by (λ (l : PricedLine). same_key line.key l.key) (l ∷ lines)
    by true is rest =
        let same : ◌≡◌ {A = ℕ} (cond (same_entry (entry_for c line) (record { checkout = c; line = l; status = status.Invoiced })) 1 0) (cond (same_key line.key l.key) 1 0) = rw (same_id-self c) refl in
        omega (
          arith,
          rest,
          same,
          sum_by-cons (λ (e : SellerChange). cond (same_entry (entry_for c line) e) 1 0) (record { checkout = c; line = l; status = status.Invoiced }) (marked seller c status.Invoiced lines),
          sum_by-cons (λ (l : PricedLine). cond (same_key line.key l.key) 1 0) l lines,
        )
    by false is rest =
        let none : ◌≡◌ {A = ℕ} (cond (same_key line.key l.key) 1 0) 0 = rw (differs l.key.seller own is) refl in
        omega (arith, rest, none, sum_by-cons (λ (l : PricedLine). cond (same_key line.key l.key) 1 0) l lines)

-- a line of the seller is among what is marked
pub marked-member : (c : RequestId) (line : PricedLine) (lines : List PricedLine) → Member line lines → Member (entry_for c line) (marked line.key.seller c status.Invoiced lines)
marked-member c line [] here = absurd here
marked-member c line (l ∷ lines) (inl same) =
    let self : (line.key.seller == line.key.seller) ≡ true = grind (arith, nat_tests) in
    let own : (l.key.seller == line.key.seller) ≡ true = ap (λ (x : PricedLine). x.key.seller == line.key.seller) (sym same) ∙ self in
    rw own (inl (ap (entry_for c) same))
marked-member c line (l ∷ lines) (inr later) = by (l.key.seller == line.key.seller) (marked-member c line lines later)
  where
    by : (b : Bool) → Member (entry_for c line) (marked line.key.seller c status.Invoiced lines)
        → Member (entry_for c line) (map (λ (l : PricedLine). record { checkout = c; line = l; status = status.Invoiced }) (if b then l ∷ lines_of_seller line.key.seller lines else lines_of_seller line.key.seller lines))
    by true rest = inr rest
    by false rest = rest
