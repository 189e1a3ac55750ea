use Rattle.lists.proofs.Prelude.{◌∙◌, le-leb, lt-leb}
use Rattle.tables.proofs.Cases.{passed, refused}
use Rattle.fit.specs.Fit.{fit_text}
use Rattle.fit.proofs.Whole.{links-held, parts_held}
use Rattle.fit.proofs.fits_text.Goals as goal

pub returns-then-text-gt-TEXT_LIMIT : goal.returns-then-text-gt-TEXT_LIMIT
unfolding fit_text
returns-then-text-gt-TEXT_LIMIT c = rw (lt-leb _ _ c.if-text-gt-TEXT_LIMIT.true)

pub returns-then-not-is_utf8 : goal.returns-then-not-is_utf8
unfolding fit_text
returns-then-not-is_utf8 c = rw (le-leb _ _ c.if-text-gt-TEXT_LIMIT.false, refused c.is_utf8.ensures c.if-not-is_utf8.true-raw)

pub returns-then-not-links_fit : goal.returns-then-not-links_fit
unfolding fit_text
returns-then-not-links_fit c = rw (le-leb _ _ c.if-text-gt-TEXT_LIMIT.false, passed c.is_utf8.ensures c.if-not-is_utf8.false-raw, refused (c.links_fit.ensures ∙ links-held _ _ _ _ _ c.requires) c.if-not-links_fit.true-raw)

pub returns : goal.returns
unfolding fit_text
returns c = rw (le-leb _ _ c.if-text-gt-TEXT_LIMIT.false, passed c.is_utf8.ensures c.if-not-is_utf8.false-raw, passed (c.links_fit.ensures ∙ links-held _ _ _ _ _ c.requires) c.if-not-links_fit.false-raw) (c.parts_fit.ensures ∙ parts_held _ _ _ _ _ c.requires _ c.if-text-gt-TEXT_LIMIT.false)
