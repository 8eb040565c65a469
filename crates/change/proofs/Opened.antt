-- One name that opens every definition of a change, so that a closed term of them computes.
use Prim.Native.Nat.{ℕ}
use Rattle.words.specs.Blocks.{lines, stored, replay}
use Rattle.words.specs.Written.{written}
use Rattle.node.specs.Lists.{has, all_below, different, rising, covered, below}
use Rattle.node.specs.Slot.{bytes, word_of, names, slot, spot}
use Rattle.node.specs.View.{view, sound, good}
use Rattle.tree.specs.Header.{form_agrees, counts_agree}
use Rattle.tree.specs.Kids.{pick_from}
use Rattle.tree.specs.Path.{way, way_to}
use Rattle.tree.specs.Map.{find}
use Rattle.change.specs.Steps.{staying_pairs}
use Rattle.change.specs.Plan.{new_nodes, log_words, log_written, log_replayed, log_finished, log_events, plan_events}
use Rattle.change.specs.Format.{format_events, format_past_list}
use Rattle.change.specs.Recover.{log_pairs, all_may_store, log_agrees, recover_past_form}
use Rattle.change.specs.Delete.{delete_at}
use Rattle.change.specs.Put.{rise, split, needed, put_at}
use Rattle.change.specs.Sums.{fresh, put_all, seven, less_30, putting_35, with_35, splitting, split_by, pairs_in, recovered}

unfoldable pub opened : ℕ
unfolding
    lines stored replay written has all_below different rising covered below bytes word_of names slot spot view sound good
    form_agrees counts_agree pick_from way way_to find staying_pairs new_nodes log_words log_written log_replayed log_finished log_events
    plan_events format_events format_past_list log_pairs all_may_store log_agrees recover_past_form delete_at rise split needed put_at
    fresh put_all seven less_30 putting_35 with_35 splitting split_by pairs_in recovered
opened = 0
