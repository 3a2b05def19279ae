-- The last is among the rest, or else the last so far.
use Rattle.std.proofs.Common.{◌≡◌, drop, map}
use Rattle.std.specs.Option.{option_or}
use Rattle.dt_words.specs.Settings as meant
use Rattle.dt_words.specs.View.{role_seen, setting_seen}
use Rattle.dt_words.proofs.settings.last_setting.Given as goal

abbrev pub invariant-loop-role : goal.invariant-loop-role
invariant-loop-role l =
    option_or (meant.last_setting l.name l.other (map role_seen (drop l.role-index l.roles))) (setting_seen l.last)
    ≡ meant.last_setting l.name l.other (map role_seen l.roles)
