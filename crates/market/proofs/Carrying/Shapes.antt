-- What a request is answered: a reply alone, or a change to stock and to the cart before it.
use Rattle.std.proofs.Common.{◌≡◌, ℕ, ◌+◌, Bool, true, false, ◌==◌, ◌&&◌, not, nat_le, nat_lt, cond, ◌⊎◌, inl, inr, List, [], ◌∷◌, Option, Some, None, length, refl, ap, ◌∙◌, arith}
use Rattle.std.proofs.lemmas.Bool.{and_from}
use Rattle.std.proofs.lemmas.Bool.Decides.{nat_tests}
use Rattle.market_amounts.specs.declared.keys.ProductKey.{ProductKey}
use Rattle.market_amounts.specs.declared.keys.RequestId.{RequestId}
use Rattle.market_events.specs.declared.changes.Change.{Change}
use Rattle.market_events.specs.declared.changes.Change.TheVariants as change
use Rattle.market_events.specs.declared.changes.Look.{Look}
use Rattle.market_events.specs.declared.changes.Look.TheVariants.{Unknown, Gone, Live}
use Rattle.market_events.specs.declared.replies.OrderStatus.{OrderStatus}
use Rattle.market_events.specs.declared.replies.Reply.{Reply}
use Rattle.market_events.specs.declared.replies.Reply.TheVariants as reply
use Rattle.market_events.specs.Carts.{Held, has_key, view_rows, line_rows, remove_rows}
use Rattle.market_events.specs.Copies.{copy_of, version_of}
use Rattle.market_events.specs.Links.{product_node, cart_node, stock_node, order_node}
use Rattle.market_events.specs.Looks.{is_live, look_version}
use Rattle.market_events.specs.Orders.{order_reply_rows}
use Rattle.market_events.specs.Products.{changed, create_rows, price_rows, delete_rows}
use Rattle.market_events.specs.Services.{change_fits, change_is_due}
use Rattle.market_events.specs.Steps.{Sending, told}
use Rattle.market_events.specs.Stocks.{stock_rows, level_rows}
use Rattle.market_events.specs.WellFormed.{most_lines, pieces_max}
use Rattle.market_history.specs.Acts.{Acts}

-- a service tells one reply
pub record TellsReply (id : RequestId) (rows : List Sending) : Type 0 where
  pub service : ℕ
  pub reply : Reply
  pub rows_are : rows ≡ told service id reply ∷ []

-- the product tells a change that fits what is shown of its product, and a reply
pub record TellsChange (acts : Acts) (id : RequestId) (rows : List Sending) : Type 0 where
  pub key : ProductKey
  pub version : ℕ
  pub made : Change
  pub reply : Reply
  pub rows_are : rows ≡ changed id key version made reply
  pub fit : change_fits (copy_of acts.changes key) version made ≡ true

-- the versions that are shown count the changes
abbrev pub VersionsAgree : Acts → Type 0
VersionsAgree acts = (key : ProductKey) → version_of acts.changes key ≡ look_version (copy_of acts.changes key)

-- a change with the next version
next_fits : (look : Look) (version : ℕ) (c : Change) → version ≡ look_version look → change_is_due look c ≡ true → change_fits look (version + 1) c ≡ true
next_fits look version c e due = and_from ((version + 1) == (1 + look_version look)) (change_is_due look c) (next version (look_version look) e) due
  where
    next : (m n : ℕ) → m ≡ n → ((m + 1) == (1 + n)) ≡ true
    next m n e = grind (arith, nat_tests)

module _ (acts : Acts) (agree : VersionsAgree acts) (id : RequestId) where
  change_told : (key : ProductKey) (c : Change) (r : ℕ → Reply) (look : Look) → copy_of acts.changes key ≡ look → change_is_due look c ≡ true → (rows : List Sending)
      → rows ≡ changed id key (version_of acts.changes key + 1) c (r (version_of acts.changes key + 1)) → TellsChange acts id rows
  change_told key c r look is due rows e = record {
    key = key;
    version = version_of acts.changes key + 1;
    made = c;
    reply = r (version_of acts.changes key + 1);
    rows_are = e;
    fit = next_fits (copy_of acts.changes key) (version_of acts.changes key) c (agree key) (ap (λ l. change_is_due l c) is ∙ due);
  }

  pub create_shape : (key : ProductKey) (c : Change) → ((look : Look) → is_live look ≡ false → change_is_due look c ≡ true) → (look : Look) → copy_of acts.changes key ≡ look
      → TellsReply id (create_rows id key c look (version_of acts.changes key)) ⊎ TellsChange acts id (create_rows id key c look (version_of acts.changes key))
  create_shape key c due Unknown is = inr (change_told key c reply.Created Unknown is (due Unknown refl) _ refl)
  create_shape key c due (Gone v) is = inr (change_told key c reply.Created (Gone v) is (due (Gone v) refl) _ refl)
  create_shape key c due (Live v p f) is = inl (record { service = product_node; reply = _; rows_are = refl })

  pub price_shape : (key : ProductKey) (price : ℕ) (look : Look) → copy_of acts.changes key ≡ look
      → TellsReply id (price_rows id key (change.Priced price) look (version_of acts.changes key)) ⊎ TellsChange acts id (price_rows id key (change.Priced price) look (version_of acts.changes key))
  price_shape key price Unknown is = inl (record { service = product_node; reply = _; rows_are = refl })
  price_shape key price (Gone v) is = inl (record { service = product_node; reply = _; rows_are = refl })
  price_shape key price (Live v p f) is = inr (change_told key (change.Priced price) reply.Priced (Live v p f) is refl _ refl)

  pub delete_shape : (key : ProductKey) (look : Look) → copy_of acts.changes key ≡ look
      → TellsReply id (delete_rows id key look (version_of acts.changes key)) ⊎ TellsChange acts id (delete_rows id key look (version_of acts.changes key))
  delete_shape key Unknown is = inl (record { service = product_node; reply = _; rows_are = refl })
  delete_shape key (Gone v) is = inl (record { service = product_node; reply = _; rows_are = refl })
  delete_shape key (Live v p f) is = inr (change_told key change.Deleted reply.Deleted (Live v p f) is refl _ refl)

pub view_shape : (id : RequestId) (look : Look) → TellsReply id (view_rows id look)
view_shape id Unknown = record { service = cart_node; reply = _; rows_are = refl }
view_shape id (Gone v) = record { service = cart_node; reply = _; rows_are = refl }
view_shape id (Live v p f) = record { service = cart_node; reply = _; rows_are = refl }

-- either of two replies
either_told : (id : RequestId) (service : ℕ) (b : Bool) (one other : Reply) → TellsReply id (cond b (told service id one ∷ []) (told service id other ∷ []))
either_told id service true one other = record { service = service; reply = one; rows_are = refl }
either_told id service false one other = record { service = service; reply = other; rows_are = refl }

pub line_shape : (id : RequestId) (key : ProductKey) (quantity : ℕ) (look : Look) (basket : List (ProductKey × Held)) → TellsReply id (line_rows id key quantity look basket)
line_shape id key quantity Unknown basket = record { service = cart_node; reply = _; rows_are = refl }
line_shape id key quantity (Gone v) basket = record { service = cart_node; reply = _; rows_are = refl }
line_shape id key quantity (Live v p f) basket = either_told id cart_node (nat_le most_lines (length basket) && not (has_key basket key)) _ _

pub remove_shape : (id : RequestId) (key : ProductKey) (basket : List (ProductKey × Held)) → TellsReply id (remove_rows id key basket)
remove_shape id key basket = either_told id cart_node (has_key basket key) _ _

pub stock_shape : (id : RequestId) (pieces : ℕ) (look : Look) (here : ℕ) → TellsReply id (stock_rows id pieces look here)
stock_shape id pieces Unknown here = record { service = stock_node; reply = _; rows_are = refl }
stock_shape id pieces (Gone v) here = record { service = stock_node; reply = _; rows_are = refl }
stock_shape id pieces (Live v p f) here = either_told id stock_node (nat_lt pieces_max (here + pieces)) _ _

pub level_shape : (id : RequestId) (look : Look) (here held : ℕ) → TellsReply id (level_rows id look here held)
level_shape id Unknown here held = record { service = stock_node; reply = _; rows_are = refl }
level_shape id (Gone v) here held = record { service = stock_node; reply = _; rows_are = refl }
level_shape id (Live v p f) here held = record { service = stock_node; reply = _; rows_are = refl }

pub order_shape : (id : RequestId) (status : Option OrderStatus) (total : ℕ) → TellsReply id (order_reply_rows id status total)
order_shape id None total = record { service = order_node; reply = _; rows_are = refl }
order_shape id (Some status) total = record { service = order_node; reply = _; rows_are = refl }
