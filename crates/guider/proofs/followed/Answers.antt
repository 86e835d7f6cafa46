-- A guider and a list that keep their rules have few guides and few stars.
use Rattle.std.proofs.Common.{sym, ◌∙◌}
use Rattle.guider_rule.proofs.RuleLaws.{guider-keeps, list-keeps}
use Rattle.guider.proofs.followed.Goals as goal

pub after-requires : goal.after-requires
after-requires c = ((guider-keeps _ c.requires).few, (list-keeps _ (sym c.list_ok.ensures ∙ c.if-not-list_ok.false)).few)
