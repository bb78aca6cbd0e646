-- The orders of keys and of ids.
use Rattle.std.specs.Ordering.{nat_cmp, ordering_then}
use Rattle.std.specs.declared.cmp.Ordering.{Ordering}
use Rattle.market_amounts.specs.declared.keys.ProductKey.{ProductKey}
use Rattle.market_amounts.specs.declared.keys.RequestId.{RequestId}

-- keys by seller, then product
abbrev pub key_cmp : ProductKey → ProductKey → Ordering
key_cmp a b = ordering_then (nat_cmp a.seller b.seller) (nat_cmp a.product b.product)

-- ids by caller, then number
abbrev pub id_cmp : RequestId → RequestId → Ordering
id_cmp a b = ordering_then (nat_cmp a.caller b.caller) (nat_cmp a.number b.number)
