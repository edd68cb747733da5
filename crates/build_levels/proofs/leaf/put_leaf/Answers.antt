use Rattle.build_levels.proofs.LeafLaws as laws
use Rattle.build_levels.proofs.leaf.put_leaf.Goals as goal

pub substring_of-own-requires : goal.substring_of-own-requires
substring_of-own-requires c = laws.leaf-on _ _ _ _ _ _ c.requires.0 c.requires.1

pub copy-requires : goal.copy-requires
copy-requires c = (laws.leaf-fits _ _ _ _ _ _ c.requires.0 c.requires.1 _ c.substring_of-own.ensures, c.substring_of-own.ensures.fits)

pub returns : goal.returns
returns c = record {
  value = laws.len-width _ _ _ _ _ _ c.requires.0
      c.requires.1 _ c.substring_of-own.ensures;
  writes_only_tree = laws.leaf-only-tree _ _ _ _ _ _ c.requires.0 c.requires.1 _
      c.substring_of-own.ensures _ c.copy.ensures;
  agrees_on = laws.leaf-within _ _ _ _ _ _
      c.requires.0 c.requires.1 _ c.substring_of-own.ensures _ c.copy.ensures;
}
