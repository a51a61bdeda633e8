-- What contracts see of a setting: the labels in label order, in place of the labels as given and their order.
use Rattle.std.specs.Prelude.{map}
use Rattle.oxc_plan.specs.Order.{label_at}
use Rattle.oxc_plan.specs.Plan.{ordered_label}
use Rattle.oxc_handlers.specs.declared.setting.Setting.TheInside.{Inside}
use Rattle.oxc_handlers.specs.Setting.{SettingView}

abbrev pub setting_view : Inside → SettingView
setting_view s =
    record {
      theme = s.theme;
      labels = map (λ at. ordered_label (label_at s.labels.now at)) s.order.now;
      tab = s.tabs;
      gutter = s.gutter;
      digits = s.digits;
    }
