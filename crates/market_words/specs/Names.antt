-- Names of products, requests and checkouts: their ranges and their texts.
use Rattle.std.specs.Prelude.{ℕ, ◌≤◌, List, [], ◌∷◌}
use Rattle.std.specs.Fmt.{decimal}
use Rattle.std.specs.List.{join_with_byte}
use Rattle.market_amounts.specs.declared.keys.ProductKey.{ProductKey}
use Rattle.market_amounts.specs.declared.keys.RequestId.{RequestId}

-- sellers, products, customers, callers, numbers of requests, versions, points and counts
abbrev pub id_max : ℕ
id_max = 4_294_967_295

abbrev pub IsId : ℕ → Type 0
IsId n = n ≤ id_max

pub record IsKey (key : ProductKey) : Type 0 where
  pub seller : IsId key.seller
  pub product : IsId key.product

pub record IsRequestId (id : RequestId) : Type 0 where
  pub caller : IsId id.caller
  pub number : IsId id.number

-- CALLER.NUMBER
abbrev pub id_text : RequestId → List ℕ
id_text id = join_with_byte 46 (decimal id.caller ∷ decimal id.number ∷ [])

-- SELLER:PRODUCT
abbrev pub key_text : ProductKey → List ℕ
key_text key = join_with_byte 58 (decimal key.seller ∷ decimal key.product ∷ [])
