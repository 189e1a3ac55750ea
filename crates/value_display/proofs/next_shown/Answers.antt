use Rattle.value_display.proofs.Displays.{shows-text, shows-simple}
use Rattle.value_display.proofs.next_shown.Goals as goal

pub returns-in-Text : goal.returns-in-Text
returns-in-Text c = let args = c.args in
    let next-text = c.next_text in
    shows-text args.s.now args.at next-text.result c.in-Text.is next-text.ensures

pub returns-in-SimpleText : goal.returns-in-SimpleText
returns-in-SimpleText c = let args = c.args in
    let next-simple = c.next_simple in
    shows-simple args.s.now args.at next-simple.result c.in-SimpleText.is next-simple.ensures
