-- Rings grow by their lists: the laws of one ring extending another.
use Rattle.key_elements.specs.Growth.{Extends-reflexive, Extends-transitive}
use Rattle.key_ring.specs.Ring.{RingOf, ExtendsRing}

pub ExtendsRing-reflexive : (x : RingOf) → ExtendsRing x x
ExtendsRing-reflexive x = Extends-reflexive x.list

pub ExtendsRing-transitive : (x y z : RingOf) → ExtendsRing x y → ExtendsRing y z → ExtendsRing x z
ExtendsRing-transitive x y z xy yz = Extends-transitive x.list y.list z.list xy yz
