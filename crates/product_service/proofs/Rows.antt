-- What a request makes, by the change that it asks for.
use Rattle.std.proofs.Common.{◌≡◌, List, [], Option, Some, None, refl, ap, ap₂, sym, ◌∙◌}
use Rattle.market_amounts.specs.declared.keys.ProductKey.{ProductKey}
use Rattle.market_amounts.specs.declared.keys.RequestId.{RequestId}
use Rattle.market_events.specs.declared.bodies.Body.{Body}
use Rattle.market_events.specs.declared.bodies.Body.TheVariants as body
use Rattle.market_events.specs.declared.changes.Change.{Change}
use Rattle.market_events.specs.declared.changes.Change.TheVariants as change
use Rattle.market_events.specs.declared.changes.Look.{Look}
use Rattle.market_events.specs.declared.changes.Look.TheVariants.{Unknown, Gone, Live}
use Rattle.market_events.specs.declared.requests.Ask.{Ask}
use Rattle.market_events.specs.declared.requests.Ask.TheVariants as ask
use Rattle.market_events.specs.declared.requests.Request.{Request}
use Rattle.market_events.specs.Products.{ProductSums, create_rows, price_rows, delete_rows, product_asked, product_rows}
use Rattle.market_events.specs.Steps.{Sending}
use Rattle.product_service.specs.Changing.{refusal_by, rows_unless, rows_of, change_wanted}

-- what a request makes that asks for this change, or for none
abbrev pub rows_by : ProductSums → RequestId → Option (ProductKey × Change) → List Sending
rows_by s id None = []
rows_by s id (Some wanted) = rows_of s id wanted.0 wanted.1

-- a request makes what the change that it asks for does
pub product_asked-by : (s : ProductSums) (id : RequestId) (a : Ask) → product_asked s id a ≡ rows_by s id (change_wanted a)
product_asked-by s id (ask.Create key price freight) = by_look (s.look key)
  where
    by_look : (look : Look) → create_rows id key (change.Created price freight) look (s.version key)
        ≡ rows_unless id key (change.Created price freight) (s.version key) (refusal_by look (change.Created price freight))
    by_look Unknown = refl
    by_look (Gone v) = refl
    by_look (Live v p f) = refl
product_asked-by s id (ask.Price key price) = by_look (s.look key)
  where
    by_look : (look : Look) → price_rows id key (change.Priced price) look (s.version key) ≡ rows_unless id key (change.Priced price) (s.version key) (refusal_by look (change.Priced price))
    by_look Unknown = refl
    by_look (Gone v) = refl
    by_look (Live v p f) = refl
product_asked-by s id (ask.Delete key) = by_look (s.look key)
  where
    by_look : (look : Look) → delete_rows id key look (s.version key) ≡ rows_unless id key change.Deleted (s.version key) (refusal_by look change.Deleted)
    by_look Unknown = refl
    by_look (Gone v) = refl
    by_look (Live v p f) = refl
product_asked-by s id other = refl

-- what a body makes that asks for this change
pub rows_wanted : (s : ProductSums) (b : Body) (request : Request) → b ≡ body.Asked request → (key : ProductKey) (c : Change) → Some (key, c) ≡ change_wanted request.ask
    → rows_of s request.id key c ≡ product_rows s b
rows_wanted s b request is key c wanted =
    ap (rows_by s request.id) wanted ∙ sym (ap (product_rows s) is ∙ product_asked-by s request.id request.ask)

-- sums that show the same make the same
pub product_rows-same : (s t : ProductSums) → ((key : ProductKey) → s.look key ≡ t.look key) → ((key : ProductKey) → s.version key ≡ t.version key)
    → (b : Body) → product_rows s b ≡ product_rows t b
product_rows-same s t looks versions (body.Asked request) = asked request.ask
  where
    asked : (a : Ask) → product_asked s request.id a ≡ product_asked t request.id a
    asked (ask.Create key price freight) = ap₂ (create_rows request.id key (change.Created price freight)) (looks key) (versions key)
    asked (ask.Price key price) = ap₂ (price_rows request.id key (change.Priced price)) (looks key) (versions key)
    asked (ask.Delete key) = ap₂ (delete_rows request.id key) (looks key) (versions key)
    asked other = refl
product_rows-same s t looks versions other = refl
