-- Worked examples of text, comments, instructions and CDATA sections, [14] to [21] and [27]: first the texts that a production derives,
-- then those that it does not.
use mathlib.Core.Path.{◌≡◌, refl}
use mathlib.Core.Bool.{true}
use mathlib.Core.List.{[], ◌∷◌, ◌++◌}
use Rattle.xml.specs.Productions.{CharData, Comment, PITarget, PI, CDStart, CData, CDEnd, CDSect, Misc}
use Rattle.xml.specs.Judged.{judged, texts}

pub [14]-CharData :
    judged CharData
    (texts ("" ∷ "a" ∷ ">" ∷ "]" ∷ "]]" ∷ "]>" ∷ "] ]>" ∷ "]] >" ∷ "a]]]]b" ∷ "é\n\u{feff}" ∷ "--" ∷ "?>" ∷ []))
    (texts ("]]>" ∷ "a]]>b" ∷ "]]]>" ∷ "]]>]]>" ∷ "<" ∷ "&" ∷ "a<b" ∷ "&amp;" ∷ "\0" ∷ "a\u{ffff}" ∷ []) ++ (0x61 ∷ 0x80 ∷ []) ∷ [])
    ≡ true
unfolding judged
[14]-CharData = refl

-- `<!--->` does not end what it begins: `->` belongs to the text
pub [15]-Comment :
    judged Comment
    (texts
    ("<!---->" ∷ "<!-- a - b -->" ∷ "<!--a-->" ∷ "<!--- a-->" ∷ "<!--->x-->" ∷ "<!--->-->" ∷ "<!-- -> -->" ∷ "<!--<a>&]]>?>-->"
    ∷ "<!--\né\n-->" ∷ "<!-- <!- - -->" ∷ []))
    (texts
    ("" ∷ "<!-->" ∷ "<!--->" ∷ "<!--->x->" ∷ "<!-- -- -->" ∷ "<!----->" ∷ "<!------>" ∷ "<!--a--->" ∷ "<!--a--b-->" ∷ "<!--a-->b-->"
    ∷ "<!-- a -- >" ∷ "<!-- a --" ∷ "<!-- a ->" ∷ "<!- a -->" ∷ "<! -- a -->" ∷ "<!--a-->b" ∷ " <!---->" ∷ "<!--\u{1}-->"
    ∷ "<!--\u{fffe}-->" ∷ "<!-- <!-- -->" ∷ []))
    ≡ true
unfolding judged
[15]-Comment = refl

pub [16]-PI :
    judged PI
    (texts
    ("<?a?>" ∷ "<?a ?>" ∷ "<?a b?>" ∷ "<?a\n?>" ∷ "<?a ?b?>" ∷ "<?a ??>" ∷ "<?a b>c?>" ∷ "<?a <b/>&--?>" ∷ "<?a é?>" ∷ "<?xml-s?>"
    ∷ "<?xml-stylesheet href='a'?>" ∷ "<?xmlx?>" ∷ "<?xm?>" ∷ "<?a xml?>" ∷ "<?:?>" ∷ []))
    (texts
    ("" ∷ "<?a?b?>" ∷ "<?a??>" ∷ "<??>" ∷ "<? a?>" ∷ "<? ?>" ∷ "<?xml?>" ∷ "<?XML a?>" ∷ "<?xMl?>" ∷ "<?xml version='1.0'?>"
    ∷ "<?a ?>?>" ∷ "<?a b?>c?>" ∷ "<?a bb?>cc?>" ∷ "<?a>" ∷ "<?a b>" ∷ "<?a ?" ∷ "<?a? >" ∷ "<?1?>" ∷ "<?-a?>" ∷ "<?a,b?>"
    ∷ "<?a \u{1}?>" ∷ "<?a\u{a0}b?>" ∷ "<a?>" ∷ "< ?a?>" ∷ []))
    ≡ true
unfolding judged
[16]-PI = refl

pub [17]-PITarget :
    judged PITarget
    (texts ("a" ∷ "x" ∷ "xm" ∷ "xmlx" ∷ "xml-s" ∷ "axml" ∷ "xml:" ∷ "mxl" ∷ "é" ∷ []))
    (texts ("xml" ∷ "xmL" ∷ "xMl" ∷ "xML" ∷ "Xml" ∷ "XmL" ∷ "XMl" ∷ "XML" ∷ "" ∷ "1" ∷ "-a" ∷ "a b" ∷ []))
    ≡ true
unfolding judged
[17]-PITarget = refl

pub [18]-CDSect :
    judged CDSect
    (texts
    ("<![CDATA[]]>" ∷ "<![CDATA[]]]>" ∷ "<![CDATA[]]]]>" ∷ "<![CDATA[a]]>" ∷ "<![CDATA[<a>&]]>" ∷ "<![CDATA[<![CDATA[]]>" ∷ "<![CDATA[]>]]>"
    ∷ "<![CDATA[]] >]]>" ∷ "<![CDATA[é]]>" ∷ []))
    (texts
    ("" ∷ "<![CDATA[a]]>b]]>" ∷ "<![CDATA[]]>]]>" ∷ "<![cdata[]]>" ∷ "<![CDATA[]]" ∷ "<![CDATA[]>" ∷ "<![CDATA[>" ∷ "<![CDATA]]>"
    ∷ "<! [CDATA[]]>" ∷ "<![CDATA []]>" ∷ "<![CDATA[]] >" ∷ "<![CDATA[\u{1}]]>" ∷ "<![CDATA[]]>a" ∷ []))
    ≡ true
unfolding judged
[18]-CDSect = refl

pub [19]-CDStart :
    judged CDStart
    (texts ("<![CDATA[" ∷ []))
    (texts ("" ∷ "<![CDATA" ∷ "<![cdata[" ∷ "<![CDATA[ " ∷ "<! [CDATA[" ∷ []))
    ≡ true
unfolding judged
[19]-CDStart = refl

pub [20]-CData :
    judged CData
    (texts ("" ∷ "a" ∷ "]" ∷ "]]" ∷ "]>" ∷ "]] >" ∷ "] ]>" ∷ "<a>&" ∷ "é" ∷ []))
    (texts ("]]>" ∷ "a]]>b" ∷ "]]]>" ∷ "]]>]]>" ∷ "\u{1}" ∷ "\u{fffe}" ∷ []))
    ≡ true
unfolding judged
[20]-CData = refl

pub [21]-CDEnd : judged CDEnd (texts ("]]>" ∷ [])) (texts ("" ∷ "]]" ∷ "]>" ∷ "]]]>" ∷ "]] >" ∷ [])) ≡ true
unfolding judged
[21]-CDEnd = refl

pub [27]-Misc :
    judged Misc
    (texts ("<!--a-->" ∷ "<?a?>" ∷ " " ∷ "\r\n\t " ∷ []))
    (texts ("" ∷ "a" ∷ "<a/>" ∷ "<?xml?>" ∷ "<!-->" ∷ " <!---->" ∷ "<!----><!---->" ∷ "&#32;" ∷ "<![CDATA[]]>" ∷ "\u{feff}" ∷ []))
    ≡ true
unfolding judged
[27]-Misc = refl
