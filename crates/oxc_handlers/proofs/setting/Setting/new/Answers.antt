use Rattle.std.proofs.Common.{ap}
use Rattle.oxc_handlers.specs.Setting.{setting_for}
use Rattle.oxc_handlers.proofs.SettingLemmas.{labels_in_order}
use Rattle.oxc_handlers.proofs.setting.Setting.new.Goals as goal

pub returns : goal.returns
returns c = ap (setting_for c.args.theme c.args.tabs) (labels_in_order c.args.labels.now c.args.order.now c.requires)
