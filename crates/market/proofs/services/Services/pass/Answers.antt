use Rattle.std.proofs.Common.{sym, subst}
use Rattle.market_events.specs.Links.{IsLink}
use Rattle.market.proofs.Carrying.Giving.{link_within, can_take_there, makes_there, stands_there}
use Rattle.market.proofs.services.Services.pass.Goals as goal

pub receiver_of-requires : goal.receiver_of-requires
receiver_of-requires c = subst IsLink (sym c.in-Service.is) (link_within c.args.self.now c.args.link c.in-Service.field-0 c.in-Service.is c.args.body.now c.requires)

pub accept-requires : goal.accept-requires
accept-requires c = can_take_there c.args.self.now c.args.link c.in-Service.field-0 c.in-Service.is c.args.body.now c.receiver_of.result c.receiver_of.ensures c.requires

pub returns-in-Service : goal.returns-in-Service
returns-in-Service c = record {
  made = makes_there c.args.self.now c.args.link c.in-Service.field-0 c.in-Service.is c.args.body.now c.receiver_of.result c.receiver_of.ensures c.accept.result c.accept.ensures.made;
  stands_on = stands_there c.args.self.now c.args.link c.in-Service.field-0 c.in-Service.is c.args.body.now c.receiver_of.result c.receiver_of.ensures c.accept.result c.accept.new.self c.accept.ensures.stands_on;
}
