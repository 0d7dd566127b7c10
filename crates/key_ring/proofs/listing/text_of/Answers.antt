use Rattle.std.proofs.Common.{List, ℕ, ◌<◌, length, refl, subst, sym}
use Rattle.key_ring.specs.declared.listing.TheConstants.{LISTING_LIMIT}
use Rattle.key_ring.specs.Listing.{lines}
use Rattle.key_ring.proofs.Short.{length-lines}
use Rattle.key_ring.proofs.listing.text_of.Goals as goal

pub returns-clause-value : goal.returns-clause-value
unfolding lines
returns-clause-value c =
    rw (
      c.in_ok-push_str-3.ensures.bytes,
      c.renew_line.ensures,
      c.in_ok-push_str-2.ensures.bytes,
      c.as_str-2.ensures.value,
      c.in_ok-default_line.ensures,
      c.chosen-preferred.ensures,
      c.chosen-fallback.ensures,
      c.in_ok-push_key_lines.ensures,
      c.in_ok-push_str.ensures.bytes,
      c.as_str.ensures.value,
      c.in_ok-mass_line.ensures,
      c.mass_date.ensures,
      c.in_ok-text.ensures.value,
    ) refl

pub returns-clause-short : goal.returns-clause-short
returns-clause-short c =
    subst (λ (bytes : List ℕ). length bytes < LISTING_LIMIT) (sym (returns-clause-value c))
    (length-lines c.args.list.now c.args.keys.now c.args.policy c.args.made_at c.head_line.ensures.listed c.ranges.made_at.fits c.requires.keys)
