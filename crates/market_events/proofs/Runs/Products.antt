-- What holds of products after a run: the version that a product shows is how many changes it had.
use Rattle.std.proofs.Common.{◌≡◌, ℕ, ◌+◌, ◌≤◌, Bool, true, false, List, [], ◌∷◌, ◌++◌, filter_map, length, if◌then◌else◌, ◌⊎◌, inl, inr, ◌&&◌, refl, ap, sym, ◌∙◌, arith, length-append}
use Rattle.market_amounts.specs.declared.keys.ProductKey.{ProductKey}
use Rattle.market_amounts.specs.declared.keys.RequestId.{RequestId}
use Rattle.market_events.specs.declared.bodies.Body.{Body}
use Rattle.market_events.specs.declared.bodies.Body.TheVariants as body
use Rattle.market_events.specs.declared.changes.Change.{Change}
use Rattle.market_events.specs.declared.changes.Change.TheVariants as change
use Rattle.market_events.specs.declared.changes.Look.{Look}
use Rattle.market_events.specs.declared.changes.Look.TheVariants.{Unknown, Gone, Live}
use Rattle.market_events.specs.declared.links.TheConstants.{PRODUCT_TO_STOCK}
use Rattle.market_events.specs.declared.requests.Ask.{Ask}
use Rattle.market_events.specs.declared.requests.Ask.TheVariants as ask
use Rattle.market_events.specs.Copies.{copy_of, version_of}
use Rattle.market_events.specs.Formed.{cents_formed, key_formed, request_id_formed, change_formed, ask_formed, body_formed}
use Rattle.market_events.specs.Looks.{look_version, is_live, can_change, look_after}
use Rattle.market_events.specs.Products.{changes_made, create_rows, price_rows, delete_rows, product_asked, product_rows, product_sums}
use Rattle.market_events.specs.Requests.{same_key}
use Rattle.market_events.specs.Services.{Role, Follows, IsRunOf}
use Rattle.market_events.specs.Steps.{Step, body_on}
use Rattle.market_events.proofs.Values.Lists.{and_both}
use Rattle.market_events.proofs.Steps.Products.{answers-product, copy_made-same, copy_made-other, copy_made-changed, version_made-same, version_made-changed}
use Rattle.market_events.proofs.Values.Same.{same_key-true}
use Rattle.market_events.proofs.Steps.Taken.{fits-parts, run_has}

-- what holds of products after a run
pub record ProductRun (steps : List Step) : Type 0 where
  -- the version that is shown is how many changes there were
  pub versions : (key : ProductKey) → version_of (changes_made steps) key ≡ look_version (copy_of (changes_made steps) key)
  -- there were no more changes than steps
  pub few : (key : ProductKey) → version_of (changes_made steps) key ≤ length steps

-- a step that makes no change
still : (steps : List Step) (s : Step) → filter_map (body_on PRODUCT_TO_STOCK) s.made ≡ [] → ProductRun steps → ProductRun (steps ++ s ∷ [])
still steps s none run = record {
  versions = λ key. rw (copy_made-same steps s key none, version_made-same steps s key none) (run.versions key);
  few = λ key. rw (version_made-same steps s key none) (omega (arith, run.few key, length-append steps (s ∷ [])));
}

-- what a change leaves shows its version
look_version-after : (look : Look) (version : ℕ) (c : Change) → look_version (look_after look version c) ≡ version
look_version-after look version (change.Created price freight) = refl
look_version-after look version (change.Priced price) = refl
look_version-after look version change.Deleted = refl

-- a step that makes a change with the next version
changing : (steps : List Step) (s : Step) (k : ProductKey) (c : Change) → filter_map (body_on PRODUCT_TO_STOCK) s.made ≡ body.Changed k (version_of (changes_made steps) k + 1) c ∷ [] → can_change (copy_of (changes_made steps) k) c ≡ true → ProductRun steps → ProductRun (steps ++ s ∷ [])
changing steps s k c made can run = record {
  versions = λ key. version_made-changed steps s key k (version_of (changes_made steps) k + 1) c made ∙ either key (same_key key k) refl;
  few = λ key. rw (version_made-changed steps s key k (version_of (changes_made steps) k + 1) c made) (more key (same_key key k));
}
  where
    more : (key : ProductKey) (b : Bool) → version_of (changes_made steps) key + (if b then 1 else 0) ≤ length (steps ++ s ∷ [])
    more key true = omega (arith, run.few key, length-append steps (s ∷ []))
    more key false = omega (arith, run.few key, length-append steps (s ∷ []))

    either : (key : ProductKey) (b : Bool) → same_key key k ≡ b → version_of (changes_made steps) key + (if same_key key k then 1 else 0) ≡ look_version (copy_of (changes_made (steps ++ s ∷ [])) key)
    either key true same =
        let at = same_key-true key k same in
        let can_here : can_change (copy_of (changes_made steps) key) c ≡ true = ap (λ key. can_change (copy_of (changes_made steps) key) c) at ∙ can in
        ap (λ b. version_of (changes_made steps) key + (if b then 1 else 0)) same
        ∙ ap (λ key. version_of (changes_made steps) key + 1) at
        ∙ sym (ap look_version (copy_made-changed steps s key k (version_of (changes_made steps) k + 1) c made same can_here) ∙ look_version-after (copy_of (changes_made steps) key) (version_of (changes_made steps) k + 1) c)
    either key false other =
        ap (λ b. version_of (changes_made steps) key + (if b then 1 else 0)) other
        ∙ (omega arith ∙ run.versions key)
        ∙ sym (ap look_version (copy_made-other steps s key k (version_of (changes_made steps) k + 1) c made other))

-- a step that makes a change: the next of its product, which may come next
pub record MakesChange (steps : List Step) (s : Step) : Type 0 where
  pub key : ProductKey
  pub change : Change
  pub made : filter_map (body_on PRODUCT_TO_STOCK) s.made ≡ body.Changed key (version_of (changes_made steps) key + 1) change ∷ []
  pub can : can_change (copy_of (changes_made steps) key) change ≡ true
  pub formed : change_formed change ≡ true

-- a step that makes no change
abbrev pub MakesNone : Step → Type 0
MakesNone s = filter_map (body_on PRODUCT_TO_STOCK) s.made ≡ []

-- a request makes a change or none
asked : (steps : List Step) (s : Step) (id : RequestId) (what : Ask) → s.made ≡ product_asked (product_sums steps) id what → ask_formed what ≡ true → MakesNone s ⊎ MakesChange steps s
asked steps s id (ask.Create key price freight) made formed = by_look (copy_of (changes_made steps) key) made
  where
    fits : change_formed (change.Created price freight) ≡ true
    fits = rw ((and_both (key_formed key && cents_formed price) (cents_formed freight) formed).1, (and_both (key_formed key) (cents_formed price) (and_both (key_formed key && cents_formed price) (cents_formed freight) formed).0).1)

    by_look : (look : Look) → s.made ≡ create_rows id key (change.Created price freight) look (version_of (changes_made steps) key) → MakesNone s ⊎ MakesChange steps s
    by_look Unknown made = inr (record { key = key; change = change.Created price freight; made = ap (filter_map (body_on PRODUCT_TO_STOCK)) made; can = refl; formed = fits })
    by_look (Gone v) made = inr (record { key = key; change = change.Created price freight; made = ap (filter_map (body_on PRODUCT_TO_STOCK)) made; can = refl; formed = fits })
    by_look (Live v p f) made = inl (ap (filter_map (body_on PRODUCT_TO_STOCK)) made)
asked steps s id (ask.Price key price) made formed = by_look (copy_of (changes_made steps) key) refl made
  where
    by_look : (look : Look) → copy_of (changes_made steps) key ≡ look → s.made ≡ price_rows id key (change.Priced price) look (version_of (changes_made steps) key) → MakesNone s ⊎ MakesChange steps s
    by_look Unknown is made = inl (ap (filter_map (body_on PRODUCT_TO_STOCK)) made)
    by_look (Gone v) is made = inl (ap (filter_map (body_on PRODUCT_TO_STOCK)) made)
    by_look (Live v p f) is made = inr (record { key = key; change = change.Priced price; made = ap (filter_map (body_on PRODUCT_TO_STOCK)) made; can = ap is_live is; formed = (and_both (key_formed key) (cents_formed price) formed).1 })
asked steps s id (ask.Delete key) made formed = by_look (copy_of (changes_made steps) key) refl made
  where
    by_look : (look : Look) → copy_of (changes_made steps) key ≡ look → s.made ≡ delete_rows id key look (version_of (changes_made steps) key) → MakesNone s ⊎ MakesChange steps s
    by_look Unknown is made = inl (ap (filter_map (body_on PRODUCT_TO_STOCK)) made)
    by_look (Gone v) is made = inl (ap (filter_map (body_on PRODUCT_TO_STOCK)) made)
    by_look (Live v p f) is made = inr (record { key = key; change = change.Deleted; made = ap (filter_map (body_on PRODUCT_TO_STOCK)) made; can = ap is_live is; formed = refl })
asked steps s id other made formed = inl (ap (filter_map (body_on PRODUCT_TO_STOCK)) made)

-- and so does each body
by_body : (steps : List Step) (s : Step) (b : Body) → s.made ≡ product_rows (product_sums steps) b → body_formed b ≡ true → MakesNone s ⊎ MakesChange steps s
by_body steps s (body.Asked request) made formed = asked steps s request.id request.ask made (and_both (request_id_formed request.id) (ask_formed request.ask) formed).1
by_body steps s other made formed = inl (ap (filter_map (body_on PRODUCT_TO_STOCK)) made)

-- a step that follows makes a change or none
pub product_step : (steps : List Step) (s : Step) → Follows Role.Product steps s → MakesNone s ⊎ MakesChange steps s
product_step steps s follows = by_body steps s s.body (follows.made ∙ answers-product steps s.from s.body) (fits-parts Role.Product steps s.from s.body follows.fit).formed

-- a step that follows keeps it
pub ProductRun-keeps : (steps : List Step) (s : Step) → Follows Role.Product steps s → ProductRun steps → ProductRun (steps ++ s ∷ [])
ProductRun-keeps steps s follows run = elim (product_step steps s follows) [ inl none ↦ still steps s none run | inr one ↦ changing steps s one.key one.change one.made one.can run ]

-- a run of products has it
pub ProductRun-of : (steps : List Step) → IsRunOf Role.Product steps → ProductRun steps
ProductRun-of steps run = run_has Role.Product ProductRun ProductRun-keeps (record { versions = λ key. refl; few = λ key. omega arith }) steps run

-- after a run, the version that a product shows is how many changes it had
pub version_of-look : (steps : List Step) → IsRunOf Role.Product steps → (key : ProductKey) → version_of (changes_made steps) key ≡ look_version (copy_of (changes_made steps) key)
version_of-look steps run key = (ProductRun-of steps run).versions key

-- after a run, a product had no more changes than there were steps
pub version_of-few : (steps : List Step) → IsRunOf Role.Product steps → (key : ProductKey) → version_of (changes_made steps) key ≤ length steps
version_of-few steps run key = (ProductRun-of steps run).few key
