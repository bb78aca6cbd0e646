use Rattle.std.proofs.Common.{◌+◌, ◌*◌, ◌≤◌, [], length, refl, arith}
use Rattle.market_events.specs.declared.roles.Role.{Role}
use Rattle.market_amounts.specs.declared.keys.RequestId.{RequestId}
use Rattle.market.specs.Carrying.{Taken, IsFresh, most_made, steps_taken}
use Rattle.market.proofs.services.Services.new.Goals as goal

-- no service took a step
abbrev none_taken : Taken
none_taken = record { carts = []; products = []; stocks = []; orders = []; payments = []; shipments = []; customers = []; sellers = [] }

none_few : (role : Role) → length (steps_taken none_taken role) ≤ (most_made + 1) * 0
none_few Role.Cart = omega arith
none_few other = omega arith

none_asked : (id : RequestId) (role : Role) → IsFresh (steps_taken none_taken role) id
none_asked id Role.Cart = refl
none_asked id other = refl

pub returns : goal.returns
returns c = record {
  taken = none_taken;
  stand = record {
    carts = record { run = tt; held = c.new.ensures };
    products = record { run = tt; held = c.new-2.ensures };
    stocks = record { run = tt; held = c.new-3.ensures };
    orders = record { run = tt; held = c.new-4.ensures };
    payments = record { run = tt; held = c.new-5.ensures };
    shipments = record { run = tt; held = c.new-6.ensures };
    customers = record { run = tt; held = c.new-7.ensures };
    sellers = record { run = tt; held = c.new-8.ensures };
  };
  tables = record {
    products = record { changes = refl };
    carts = record { changes = refl; baskets = λ customer key. refl };
    stocks = record { changes = refl; stocked = λ key. refl; sold = λ key. refl; settled = refl };
    orders = record { known = λ id. refl; orders = λ id. refl; total = λ id. refl; failed = λ id. refl; shipped = λ id. refl; items = refl };
    payments = record { limit = λ customer. refl; spent = λ customer. refl };
    shipments = record { packed = refl; items = refl; apart = refl };
    customers = record { confirmed = λ customer. refl; failed = λ customer. refl; items = refl };
    sellers = record { entries = λ seller. refl; lines = λ id. refl; shipped = λ id. refl; items = refl };
  };
  few = none_few;
  fresh = λ r absent role. none_asked r.id role;
}
